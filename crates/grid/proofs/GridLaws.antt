-- Laws of the grid: a step and its opposite undo each other, at wrapped sides of length 1 and 2 too; a neighbour is a cell of the grid;
-- what the tests of size, mode and cell say. Assumes nothing.
use mathlib.Core.Bool.{Bool, true, false, cond, ◌||◌}
use mathlib.Core.Logic.{◌↔◌}
use Rattle.std.specs.Prelude.{Option, None, Some}
use mathlib.Core.Path.{◌≡◌, refl, sym, ap}
use Prim.Native.Nat.{ℕ, zero, suc, ◌+◌, ◌-◌, ◌*◌, ◌/◌, ◌%◌, ◌≤◌, ◌<◌}
use native.Mathlib.Decide.{ℕ_discrete}
use native.Mathlib.Nat.{mod-lt, div-lt_iff_lt-mul, div-add-mod', mul-le-mul}
use native.Mathlib.Omega.{arith}
use lib.Arith.{digits_div, digits_mod, digits_lt}
use lib.Dec.{ltb, eqb}
use lib.IntN.{ℤ, pos, negsuc, neg_ℤ}
use borrow.Author.Tests.{ltb-true, ltb-false, leb-false, eqb-false, lt-ltb, le-ltb, le-leb, lt-leb}
use Rattle.directions.specs.Directions.{opposite, step_x, step_y}
use Rattle.grid.specs.Grid.{Grid, cells, wraps_x, wraps_y, round, after, before, along, at, neighbour, bad_side, bad_size, bad_wrap, bad_cell, Sized}
use Rattle.loops.proofs.TestLaws.{neither}
use Rattle.directions.proofs.DirectionLaws.{opposite-below, opposite-opposite, step_x-opposite, step_y-opposite}

-- ---- what acceptance says

-- a side that is not bad
pub side_of : (n : ℕ) → bad_side n ≡ false → (1 ≤ n) × (n ≤ 64)
unfolding bad_side
side_of n e = let (z, l) = neither (eqb n 0) (ltb 64 n) e in (omega (arith, eqb-false n 0 z), omega (arith, ltb-false))

-- the product of two such sides is small
pub cells-small : (width height : ℕ) → bad_side width ≡ false → bad_side height ≡ false → height * width ≤ 4096
cells-small width height e k = mul-le-mul (side_of height k).1 (side_of width e).1

-- a size that is not bad
pub size_of : (width height : ℕ)
    → bad_size width height ≡ false
    → (bad_side width ≡ false) × (bad_side height ≡ false) × (height * width ≤ 1024)
unfolding bad_size
size_of width height e =
    let (s, l) = neither (bad_side width || bad_side height) (ltb 1024 (height * width)) e in
    let (x, y) = neither (bad_side width) (bad_side height) s in
    (x, y, ltb-false 1024 (height * width) l)

-- and its cells
pub cells-few : (width height : ℕ) → bad_size width height ≡ false → height * width ≤ 1024
cells-few width height e = (size_of width height e).2

-- a grid that is refused neither for its size nor for its mode
pub sized_of : (g : Grid) → bad_size g.width g.height ≡ false → bad_wrap g.mode ≡ false → Sized g
unfolding bad_wrap
sized_of g e m =
    let (x, y, l) = size_of g.width g.height e in
    record {
      wide = (side_of g.width x).0;
      narrow = (side_of g.width x).1;
      tall = (side_of g.height y).0;
      low = (side_of g.height y).1;
      few = l;
      known = ltb-false 3 g.mode m;
    }

-- a cell is bad exactly from the number of cells on
module _ (g : Grid) (c : ℕ) where
  pub cell-past : cells g ≤ c → bad_cell g c ≡ true
  unfolding bad_cell
  cell-past h = le-leb (cells g) c h

  pub cell-inside : c < cells g → bad_cell g c ≡ false
  unfolding bad_cell
  cell-inside h = lt-leb (cells g) c h

  pub inside_of : bad_cell g c ≡ false → c < cells g
  unfolding bad_cell
  inside_of e = leb-false (cells g) c e

-- ---- along one side

-- past an edge there is a place only where the side wraps
round-some : (w : Bool) (i j : ℕ) → round w i ≡ Some j → (w ≡ true) × (j ≡ i)
unfolding round
round-some true i j e = (refl, cc)
round-some false i j e = let z : ◌≡◌ {A = ℕ} 0 1 = cc in absurd (omega arith)

-- a step on and a step back along a side undo each other
after-back : (w : Bool) (n i j : ℕ) → i < n → after w n i ≡ Some j → (before w n j ≡ Some i) × (j < n)
unfolding after before
after-back w n i j h e = go (ltb (suc i) n) refl e
  where
    go : (b : Bool) → ltb (suc i) n ≡ b → cond b (Some (suc i)) (round w 0) ≡ Some j → (before w n j ≡ Some i) × (j < n)
    go true k e = let z : j ≡ suc i = cc in (rw z, omega (arith, ltb-true))
    go false k e = let (y, z) = round-some w 0 j e in (rw (z, y) (ap Some (omega (arith, ltb-false))), omega arith)

before_back : (w : Bool) (n i j : ℕ) → i < n → before w n i ≡ Some j → (after w n j ≡ Some i) × (j < n)
unfolding after before
before_back w n zero j h e = let (y, z) = round-some w (n - 1) j e in (rw (le-ltb (suc j) n (omega arith), y), omega arith)
before_back w n (suc i) j h e = let z : i ≡ j = cc in (rw (← z, lt-ltb (suc i) n h), omega arith)

-- a step along a side stays on it, and the step the other way undoes it
pub along-back : (w : Bool) (n i j : ℕ) (s : ℤ) → i < n → along w n i s ≡ Some j → (along w n j (neg_ℤ s) ≡ Some i) × (j < n)
unfolding along
along-back w n i j (pos zero) h e = let z : i ≡ j = cc in (sym e, omega arith)
along-back w n i j (pos (suc k)) h e = after-back w n i j h e
along-back w n i j (negsuc k) h e = before_back w n i j h e

-- ---- columns and rows

-- a cell of the grid has a column below the width and a row below the height
module _ (width height c : ℕ) (inside : c < height * width) where
  wide : 0 < width
  wide = elim (ℕ_discrete width 0) [ yes e ↦ absurd (omega (arith, ap (λ (w : ℕ). height * w) e)) | no e ↦ omega arith ]

  pub column-below : c % width < width
  column-below = mod-lt c wide

  pub row_below : c / width < height
  row_below = (div-lt_iff_lt-mul wide).1 inside

-- a cell was made of a column and a row
at_some : (w : ℕ) (x y : Option ℕ) (n : ℕ) → at w x y ≡ Some n → (i : ℕ) × (j : ℕ) × (x ≡ Some i) × (y ≡ Some j) × (n ≡ j * w + i)
at_some w (Some i) (Some j) n e = (i, j, refl, refl, cc)
at_some w (Some i) None n e = let z : ◌≡◌ {A = ℕ} 0 1 = cc in absurd (omega arith)
at_some w None y n e = let z : ◌≡◌ {A = ℕ} 0 1 = cc in absurd (omega arith)

-- ---- neighbours

-- what the neighbour n in direction d of c is: a cell of the grid from which the opposite direction leads back
pub record Beside (g : Grid) (c d n : ℕ) : Type 0 where
  pub inside : n < cells g
  pub back : neighbour g n (opposite d) ≡ Some c

pub neighbour-beside : (g : Grid) (c d n : ℕ) → c < cells g → d < 4 → neighbour g c d ≡ Some n → Beside g c d n
unfolding neighbour
neighbour-beside g c d n h k e =
    let (i, j, ei, ej, z) = at_some g.width _ _ n e in
    let (bi, hi) = along-back (wraps_x g) g.width _ i (step_x d) (column-below g.width g.height c h) ei in
    let (bj, hj) = along-back (wraps_y g) g.height _ j (step_y d) (row_below g.width g.height c h) ej in
    record {
      inside = rw z (digits_lt hj hi);
      back = rw (z, digits_mod j hi, digits_div j hi, step_x-opposite d k, step_y-opposite d k, bi, bj) (ap Some (div-add-mod' c g.width));
    }

module _ (g : Grid) (c d n : ℕ) (inside : c < cells g) (k : d < 4) where
  pub neighbour-inside : neighbour g c d ≡ Some n → n < cells g
  neighbour-inside e = (neighbour-beside g c d n inside k e).inside

  pub neighbour-opposite : n < cells g → (neighbour g c d ≡ Some n) ↔ (neighbour g n (opposite d) ≡ Some c)
  neighbour-opposite h = (
    λ e. (neighbour-beside g c d n inside k e).back,
    λ e. rw (opposite-opposite d k) at (neighbour-beside g n (opposite d) c h (opposite-below d k) e).back,
  )
