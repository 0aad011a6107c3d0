-- `grid::Grid::bad_wrap` meets its contract: it makes the definition's test.
-- Assumes nothing.
use mathlib.Core.Path.{refl}
use Rattle.grid.specs.Grid.{bad_wrap}
use Rattle.grid.proofs.Grid.bad_wrap.Goals as goal

pub returns : goal.returns
unfolding bad_wrap
returns c = refl
