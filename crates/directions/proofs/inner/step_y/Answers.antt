-- `directions::inner::step_y` meets its contract: what a signed byte holds it gives back.
-- Assumes nothing.
use mir.Syntax.{w8}
use mir.ValLaws.{to_z-of_z}
use Rattle.directions.specs.Directions.{step_y}
use Rattle.directions.proofs.DirectionLaws.{step_y-fits}
use Rattle.directions.proofs.inner.step_y.Goals as goal

pub returns : goal.returns
unfolding step_y
returns c = to_z-of_z w8 (step_y c.args.d) (step_y-fits c.args.d c.requires)
