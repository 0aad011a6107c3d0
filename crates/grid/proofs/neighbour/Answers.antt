-- `grid::neighbour` meets its contract: each return gives the first refusal whose test holds, or the neighbour.
-- Assumes nothing.
use mathlib.Core.Bool.{false}
use mathlib.Core.List.{[], ◌∷◌}
use mathlib.Core.Path.{◌≡◌, sym, ap, ◌∙◌}
use Prim.Native.Nat.{ℕ}
use native.Mathlib.Omega.{arith}
use borrow.Author.Tests.{lt-ltb, le-ltb}
use Rattle.directions.specs.Directions.{bad_direction}
use Rattle.refusals.specs.declared.Refusal.{Refusal}
use Rattle.refusals.specs.declared.Refusal.TheVariants.{BadSize, BadWrap, BadCell, BadDirection}
use Rattle.refusals.specs.Refusals.{number, ◌gives◌, first_of, answer}
use Rattle.std.specs.Prelude.{Option, Ok, Err}
use Rattle.grid.specs.Answers.{near_of, neighbour_tests, neighbour_asked}
use Rattle.grid.specs.Grid.{Grid, grid, neighbour, bad_size, bad_wrap, bad_cell, Sized}
use Rattle.refusals.proofs.RefusalLaws.{first-here, first_next, first-empty, checked-accepted, checked_refused}
use Rattle.grid.proofs.GridLaws.{sized_of, cell-past, cell-inside}
use Rattle.grid.proofs.neighbour.Goals as goal
use Rattle.grid.proofs.neighbour.Goals.{Else-bad_size, Else-bad_wrap, Else-direction-gt3}

module _ (g : Grid) (c d : ℕ) where
  refuses : (r : Refusal) → first_of (neighbour_tests g c d) ≡ number r → near_of (Err r) ≡ neighbour_asked g c d
  unfolding near_of neighbour_asked
  refuses r e = sym (checked_refused (neighbour_tests g c d) (neighbour g c d) r e)

  finds : (near : Option ℕ) → first_of (neighbour_tests g c d) ≡ 0 → near ≡ neighbour g c d → near_of (Ok near) ≡ neighbour_asked g c d
  unfolding near_of neighbour_asked
  finds near e k = ap answer k ∙ sym (checked-accepted (neighbour_tests g c d) (neighbour g c d) e)

pub returns-then-bad_size : goal.returns-then-bad_size
returns-then-bad_size c = refuses _ _ _ BadSize (first-here _ _ (sym c.bad_size.ensures ∙ c.if-bad_size.true))

size-good : (c : Else-bad_size) → let a = c.args in bad_size a.width a.height ≡ false
size-good c = sym c.bad_size.ensures ∙ c.if-bad_size.false

pub returns-then-bad_wrap : goal.returns-then-bad_wrap
returns-then-bad_wrap c =
    refuses _ _ _ BadWrap (first_next _ _ (size-good (goal.at.returns-then-bad_wrap c).Else-bad_size) ∙ first-here _ _ (sym c.bad_wrap.ensures ∙ c.if-bad_wrap.true))

wrap-good : (c : Else-bad_wrap) → bad_wrap c.args.mode ≡ false
wrap-good c = sym c.bad_wrap.ensures ∙ c.if-bad_wrap.false

pub returns-then-direction-gt3 : goal.returns-then-direction-gt3
unfolding bad_direction
returns-then-direction-gt3 c =
    refuses _ _ _ BadDirection
    (first_next _ _ (size-good (goal.at.returns-then-direction-gt3 c).Else-bad_size)
    ∙ first_next _ _ (wrap-good (goal.at.returns-then-direction-gt3 c).Else-bad_wrap)
    ∙ first-here _ _ (lt-ltb _ _ c.if-direction-gt3.true))

module _ (c : Else-direction-gt3) where
  abbrev lent : Grid
  lent = let a = c.args in grid a.width a.height a.mode

  sized : Sized lent
  sized = sized_of lent (size-good (goal.at.Else-direction-gt3 c).Else-bad_size) (wrap-good (goal.at.Else-direction-gt3 c).Else-bad_wrap)

  -- the cell's test is the only one left
  to_cell : let a = c.args in
      first_of (neighbour_tests lent a.cell a.direction) ≡ first_of ((bad_cell lent a.cell gives BadCell) ∷ [])
  unfolding bad_direction
  to_cell =
      first_next _ _ (size-good (goal.at.Else-direction-gt3 c).Else-bad_size)
      ∙ first_next _ _ (wrap-good (goal.at.Else-direction-gt3 c).Else-bad_wrap)
      ∙ first_next _ _ (le-ltb _ _ c.if-direction-gt3.false)

pub cells-requires : goal.cells-requires
cells-requires c = size-good (goal.at.cells-requires c).Else-bad_size

pub returns-then-cells-cell : goal.returns-then-cells-cell
returns-then-cells-cell c = refuses _ _ _ BadCell (to_cell (goal.at.returns-then-cells-cell c).Else-direction-gt3 ∙ first-here _ _ (cell-past _ _ (omega arith)))

pub neighbour_of-requires : goal.neighbour_of-requires
neighbour_of-requires c = (sized (goal.at.neighbour_of-requires c).Else-direction-gt3, omega arith, omega arith)

pub returns : goal.returns
returns c =
    finds _ _ _ _ (to_cell (goal.at.returns c).Else-direction-gt3 ∙ first_next _ _ (cell-inside _ _ (omega arith)) ∙ first-empty) c.neighbour_of.ensures
