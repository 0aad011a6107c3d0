-- `notes::inner::write` meets its contract: it writes what the definition writes, in its order.
-- Assumes nothing.
use mathlib.Core.Path.{refl}
use Rattle.notes.specs.Beside.{written}
use Rattle.notes.proofs.inner.write.Goals as goal

pub returns : goal.returns
unfolding written
returns c = refl
