-- `grid::Grid::cells` meets its contract: a size that is not bad has a product that fits.
-- Assumes nothing.
use native.Mathlib.Omega.{arith}
use Rattle.grid.proofs.GridLaws.{cells-few}
use Rattle.grid.proofs.Grid.cells.Goals as goal

pub overflow_mul-result : goal.overflow_mul-result
overflow_mul-result c = omega (arith, cells-few _ _ c.requires)
