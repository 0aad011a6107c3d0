-- `grid::Grid::neighbour_of` meets its contract: the two sides are stepped along apart, and a place on each makes a cell.
-- Assumes nothing.
use mathlib.Core.Bool.{Bool}
use mathlib.Core.Path.{◌≡◌, sym, ap, ◌∙◌}
use Prim.Native.Nat.{ℕ, ◌+◌, ◌*◌, ◌<◌}
use native.Mathlib.Omega.{arith}
use lib.IntN.{ℤ}
use lib.Signed.{mag}
use mir.Syntax.{w8}
use mir.Val.{to_z, of_z}
use mir.ValLaws.{to_z-of_z}
use Rattle.std.specs.Prelude.{None, Some}
use Rattle.grid.specs.Grid.{Grid, cells, along, column, row, neighbour, Sized}
use Rattle.grid.proofs.GridLaws.{column-below, row_below, neighbour-inside}
use Rattle.grid.proofs.Grid.neighbour_of.Goals as goal
use Rattle.grid.proofs.Grid.neighbour_of.Goals.{After-along, After-along-2}

-- a place off either edge makes no cell, and two places make one
module _ (g : Grid) (c d : ℕ) where
  off-x : None ≡ column g c d → None ≡ neighbour g c d
  unfolding neighbour
  off-x e = rw (← e)

  module _ (x : ℕ) (ex : Some x ≡ column g c d) where
    off-y : None ≡ row g c d → None ≡ neighbour g c d
    unfolding neighbour
    off-y e = rw (← ex, ← e)

    on_both : (y : ℕ) → Some y ≡ row g c d → Some (y * g.width + x) ≡ neighbour g c d
    unfolding neighbour
    on_both y e = rw (← ex, ← e)

-- a step is handed on as it was read from its table
handed : (w : Bool) (n i : ℕ) {s z : ℤ} → mag s < 128 → s ≡ z → along w n i (to_z w8 (of_z w8 s)) ≡ along w n i z
handed w n i {s} h e = ap (along w n i) (to_z-of_z w8 s (record { sfits = h }) ∙ e)

-- what the two steps along the sides come to
to-column : (c : After-along) → c.along.result ≡ column c.args.self c.args.cell c.args.direction
unfolding column
to-column c = c.along.ensures ∙ handed _ _ _ c.step_x.type_inv c.step_x.ensures

to_row : (c : After-along-2) → c.along-2.result ≡ row c.args.self c.args.cell c.args.direction
unfolding row
to_row c = c.along-2.ensures ∙ handed _ _ _ c.step_y.type_inv c.step_y.ensures

pub along-requires : goal.along-requires
along-requires c = column-below _ _ _ c.requires.1

pub returns-in_err-x : goal.returns-in_err-x
returns-in_err-x c = c.from_residual.ensures ∙ off-x _ _ _ (sym c.in_err-x.was ∙ to-column (goal.at.returns-in_err-x c).After-along)

pub along-requires-2 : goal.along-requires-2
along-requires-2 c = row_below _ _ _ c.requires.1

pub returns-in_err-y : goal.returns-in_err-y
returns-in_err-y c =
    c.from_residual-in_err-y.ensures
    ∙ off-y _ _ _ _
    (sym c.in_ok-x.was ∙ to-column (goal.at.returns-in_err-y c).After-along)
    (sym c.in_err-y.was ∙ to_row (goal.at.returns-in_err-y c).After-along-2)

pub returns : goal.returns
returns c =
    on_both _ _ _ _
    (sym c.in_ok-x.was ∙ to-column (goal.at.returns c).After-along)
    _ (sym c.in_ok-y.was ∙ to_row (goal.at.returns c).After-along-2)

-- the cell that is made is one of the grid's, so its number fits
cell-few : (g : Grid) (c d n : ℕ) → Sized g × (c < cells g) × (d < 4) → Some n ≡ neighbour g c d → n < 1024
cell-few g c d n (sized, inside, below) e = omega (arith, neighbour-inside g c d n inside below (sym e))

pub overflow_add-result : goal.overflow_add-result
overflow_add-result c = omega (arith, cell-few _ _ _ _ c.requires (returns c))

pub overflow_mul-result : goal.overflow_mul-result
overflow_mul-result c = omega (arith, overflow_add-result c)
