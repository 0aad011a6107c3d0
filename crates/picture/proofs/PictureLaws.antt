-- A picture's view has room for the legend. Assumes nothing.
use mathlib.Core.Bool.{Bool, true, false, cond}
use mathlib.Core.Path.{◌≡◌, refl}
use Prim.Native.Nat.{ℕ, ◌+◌, ◌-◌, ◌*◌, ◌/◌, ◌≤◌, ◌<◌, min}
use native.Mathlib.Omega.{arith}
use lib.Dec.{ltb}
use borrow.Author.Tests.{ltb-false}
use Rattle.picture.specs.Picture.{beneath, breadth}

-- a picture is no narrower than the legend with its margin
breadth-enough : (width : ℕ) → 38 ≤ breadth width
unfolding breadth beneath
breadth-enough width = wide (ltb width 36) refl
  where
    wide : (narrow : Bool) → ltb width 36 ≡ narrow → 38 ≤ cond narrow 38 (min width 64 + 2)
    wide true e = omega arith
    wide false e = omega (arith, ltb-false width 36 e)

-- the view begins at -1: in it lies the legend's column of every pattern, nine wide
pub legend_inside : (width p : ℕ) → p < 64 → p / 16 * 9 + 9 ≤ breadth width - 1
legend_inside width p h = omega (arith, h, breadth-enough width)
