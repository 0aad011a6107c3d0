-- `seed::step` meets its contract: the sum wraps.
-- Assumes nothing.
use Rattle.std.proofs.Common.{refl}
use Rattle.seed.specs.Seeds.{stepped}
use Rattle.seed.proofs.step.Goals as goal

pub returns : goal.returns
unfolding stepped
returns c = refl
