-- `directions::inner::step_x` meets its contract: what a signed byte holds it gives back.
-- Assumes nothing.
use mir.Syntax.{w8}
use mir.ValLaws.{to_z-of_z}
use Rattle.directions.specs.Directions.{step_x}
use Rattle.directions.proofs.DirectionLaws.{step_x-fits}
use Rattle.directions.proofs.inner.step_x.Goals as goal

pub returns : goal.returns
unfolding step_x
returns c = to_z-of_z w8 (step_x c.args.d) (step_x-fits c.args.d c.requires)
