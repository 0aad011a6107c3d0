-- `notes::inner::proposed` meets its contract, by whether the cell was noted in this propagation.
-- Assumes nothing.
use Rattle.notes.proofs.BesideLaws.{proposed-first, proposed-later}
use Rattle.notes.proofs.inner.proposed.Goals as goal

pub returns-then-fresh-eq0 : goal.returns-then-fresh-eq0
returns-then-fresh-eq0 c = proposed-first _ _ _ _ c.if-fresh-eq0.true

pub returns : goal.returns
returns c = proposed-later _ _ _ _ c.if-fresh-eq0.false c.lowered.ensures
