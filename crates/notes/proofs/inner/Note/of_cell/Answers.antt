-- `notes::inner::Note::of_cell` meets its contract: each field is read where the definition reads it.
-- Assumes nothing.
use Rattle.notes.proofs.inner.Note.of_cell.Goals as goal

pub returns : goal.returns
returns c = rw c.wide.ensures
