-- `grid::Grid::bad_size` meets its contract: sides that are not bad have a product that fits.
-- Assumes nothing.
use mathlib.Core.Bool.{false}
use mathlib.Core.Path.{◌≡◌}
use native.Mathlib.Omega.{arith}
use Rattle.grid.specs.Grid.{bad_side, bad_size}
use Rattle.grid.proofs.GridLaws.{cells-small}
use Rattle.grid.proofs.Grid.bad_size.Goals as goal
use Rattle.grid.proofs.Grid.bad_size.Goals.{Else-bad_side-2, then-bad_side, else-bad_side}

good : (c : Else-bad_side-2) → (bad_side c.args.self.width ≡ false) × (bad_side c.args.self.height ≡ false)
good c =
    elim c.if-bad_side.branch [
      | then-bad_side w ↦ absurd (grind arith)
      | else-bad_side w ↦ (grind arith, grind arith)
    ]

pub overflow_mul-result : goal.overflow_mul-result
overflow_mul-result c = let (w, h) = good (goal.at.overflow_mul-result c).Else-bad_side-2 in omega (arith, cells-small _ _ w h)

pub returns-then-bad_side-2 : goal.returns-then-bad_side-2
unfolding bad_size
returns-then-bad_side-2 c =
    elim c.if-bad_side.branch [ then-bad_side w ↦ grind arith | else-bad_side w ↦ grind arith ]

pub returns-else-bad_side-2 : goal.returns-else-bad_side-2
unfolding bad_size
returns-else-bad_side-2 c = let (w, h) = good (goal.at.returns-else-bad_side-2 c).Else-bad_side-2 in rw (w, h)
