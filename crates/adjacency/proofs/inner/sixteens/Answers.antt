-- `adjacency::inner::sixteens` meets its contract, word for word.
-- Assumes nothing.
use mathlib.Core.Path.{refl}
use Rattle.adjacency.specs.Fours.{sixteens}
use Rattle.adjacency.proofs.inner.sixteens.Goals as goal

pub returns : goal.returns
unfolding sixteens
returns c = refl
