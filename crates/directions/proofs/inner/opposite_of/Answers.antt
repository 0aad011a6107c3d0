-- `directions::inner::opposite_of` meets its contract: the constant table is the definition's.
-- Assumes nothing.
use mathlib.Core.Path.{refl}
use Rattle.directions.specs.Directions.{opposite}
use Rattle.directions.proofs.inner.opposite_of.Goals as goal

pub returns : goal.returns
unfolding opposite
returns c = refl
