-- The signs of a chart are told apart, by one test that is computed over all 64 patterns.
-- Follows docs/RULES.md, "Programs". Assumes nothing.
use mathlib.Core.Bool.{Bool, false, not}
use mathlib.Core.List.{List}
use mathlib.Core.Path.{◌≡◌, sym}
use Prim.Native.Nat.{ℕ, ◌<◌}
use native.Mathlib.Decide.{dec_lt}
use native.Mathlib.Nat.{le_antisymm}
use native.Mathlib.Omega.{arith}
use lib.Dec.{T, T_not, eqb}
use borrow.Author.Tests.{eq-eqb, not-true}
use Rattle.loops.specs.Tests.{all_to, elem}
use Rattle.loops.proofs.TestLaws.{T_true, true-T, all-at}
use Rattle.text.specs.Pages.{ascii}
use Rattle.chart.specs.Signs.{glyph}

-- ---- no two are alike

-- no two numbers below n are alike
unfoldable pub all_apart : ℕ → (ℕ → ℕ → Bool) → Bool
unfolding all_to
all_apart n alike = all_to n (λ p. all_to p (λ q. not (alike q p)))

module _ (n : ℕ) (alike : ℕ → ℕ → Bool) (t : T (all_apart n alike)) where
  before : (p q : ℕ) → q < p → p < n → T (alike q p) → ⊥
  unfolding all_apart
  before p q l h = T_not (alike q p) (all-at (λ r. not (alike r p)) p (all-at (λ s. all_to s (λ r. not (alike r s))) n t p h) q l)

  -- two that are alike are the same
  pub apart : (p q : ℕ) → p < n → q < n → T (alike p q) → T (alike q p) → p ≡ q
  apart p q hp hq a b =
      elim (dec_lt p q) [
        | yes l ↦ absurd (before q p l hq a)
        | no l ↦ elim (dec_lt q p) [ yes m ↦ absurd (before p q m hp b) | no m ↦ le_antisymm (omega (arith, m)) (omega (arith, l)) ]
      ]

-- ---- signs

same_glyph : ℕ → ℕ → Bool
unfolding glyph
same_glyph p q = eqb (glyph p) (glyph q)

glyphs-apart : T (all_apart 64 same_glyph)
unfolding all_apart same_glyph
glyphs-apart = tt

-- no two patterns have the same sign
pub glyph-injective : (p q : ℕ) → p < 64 → q < 64 → glyph p ≡ glyph q → p ≡ q
unfolding same_glyph
glyph-injective p q hp hq e =
    apart 64 same_glyph glyphs-apart p q hp hq (T_true (eq-eqb (glyph p) (glyph q) e)) (T_true (eq-eqb (glyph q) (glyph p) (sym e)))

-- the signs that say something else: how many patterns remain, that none does, a blank, a seam, an edge and a corner
abbrev pub others : List ℕ
others = ascii "0123456789? :-|+"

free : ℕ → Bool
unfolding elem glyph
free p = not (elem (glyph p) others)

glyphs-free : T (all_to 64 free)
unfolding all_to free
glyphs-free = tt

-- no pattern has one of those
pub glyph-free : (p : ℕ) → p < 64 → elem (glyph p) others ≡ false
unfolding free
glyph-free p h = not-true (elem (glyph p) others) (true-T (free p) (all-at free 64 glyphs-free p h))
