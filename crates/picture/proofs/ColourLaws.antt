-- The colours of a picture are told apart, by one test that is computed over all 64 patterns. Follows docs/RULES.md, "Programs".
use mathlib.Core.Bool.{Bool, ◌&&◌}
use mathlib.Core.Path.{◌≡◌, sym}
use Prim.Native.Nat.{ℕ, ◌<◌}
use lib.Dec.{T, eqb, ltb, ltb→lt}
use lib.Ieee.Fits.{and_i}
use borrow.Author.Tests.{eq-eqb}
use Rattle.loops.specs.Tests.{all_to}
use Rattle.picture.specs.Picture.{colours, part}
use Rattle.loops.proofs.TestLaws.{T_true, all-at}
use Rattle.chart.proofs.SignLaws.{all_apart, apart}

same_colour : ℕ → ℕ → Bool
unfolding part
same_colour p q = eqb (part p 0) (part q 0) && (eqb (part p 1) (part q 1) && eqb (part p 2) (part q 2))

colours-apart : T (all_apart 64 same_colour)
unfolding all_apart same_colour colours
colours-apart = tt

same_colour_lem : (p q : ℕ) → part p 0 ≡ part q 0 → part p 1 ≡ part q 1 → part p 2 ≡ part q 2 → T (same_colour p q)
unfolding same_colour
same_colour_lem p q r g b =
    and_i (eqb (part p 0) (part q 0)) (eqb (part p 1) (part q 1) && eqb (part p 2) (part q 2)) (T_true (eq-eqb (part p 0) (part q 0) r))
    (and_i (eqb (part p 1) (part q 1)) (eqb (part p 2) (part q 2)) (T_true (eq-eqb (part p 1) (part q 1) g)) (T_true (eq-eqb (part p 2) (part q 2) b)))

-- no two patterns have the same red, green and blue
pub colour_injective : (p q : ℕ) → p < 64 → q < 64 → part p 0 ≡ part q 0 → part p 1 ≡ part q 1 → part p 2 ≡ part q 2 → p ≡ q
colour_injective p q hp hq r g b = apart 64 same_colour colours-apart p q hp hq (same_colour_lem p q r g b) (same_colour_lem q p (sym r) (sym g) (sym b))

bright : ℕ → Bool
unfolding part
bright p = ltb 0 (part p 0)

colours_bright : T (all_to 64 bright)
unfolding all_to bright colours
colours_bright = tt

-- no pattern is black, as an empty cell is
pub colour_bright : (p : ℕ) → p < 64 → 0 < part p 0
unfolding bright
colour_bright p h = ltb→lt 0 (part p 0) (all-at bright 64 colours_bright p h)
