-- `notes::inner::touch` meets its contract: one store, where the definition has it.
-- Assumes nothing.
use mathlib.Core.Path.{refl}
use Rattle.notes.specs.Blocks.{touched}
use Rattle.notes.proofs.inner.touch.Goals as goal

pub returns : goal.returns
unfolding touched
returns c = refl
