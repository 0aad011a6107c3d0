-- Laws of weights: the sum over a word pattern by pattern, over none and over all of them, the word of the weighted patterns,
-- and what the check of weights gives. Follows docs/RULES.md, "Tables".
-- Assumes nothing.
use mathlib.Core.Bool.{Bool, true, false, not, cond}
use mathlib.Core.List.{List}
use mathlib.Core.Path.{◌≡◌, refl, sym, ap, ◌∙◌}
use Prim.Native.Nat.{ℕ, zero, suc, ◌+◌, ◌*◌, ◌^◌, ◌≤◌, ◌<◌, zero-le}
use native.Mathlib.Decide.{dec_lt, ℕ_discrete}
use native.Mathlib.Nat.{le_refl, one-mul, zero-mul, mul-zero}
use native.Mathlib.Omega.{arith}
use lib.Bits.{bit_and, and_le_r}
use lib.ListN.{length, get_or-eq_default}
use lib.Pow.{pow_pos}
use borrow.Author.Tests.{eqb-true, eqb-false, ltb-false, not-true, not-false, eq-eqb, ne_eqb, le-ltb}
use Rattle.words.specs.Words.{bit, without, full}
use Rattle.adjacency.specs.Weights.{Bounded, Weighed, weight_of, whole_weight, weight_sum, weighted, mask}
use Rattle.adjacency.specs.Checks.{weights_misfit, over_weight}
use Rattle.loops.proofs.SumLaws.{sum-ext, sum_mono, sum-at, sum-zero, sum-le}
use Rattle.words.proofs.BitLaws.{bit-lt, bit_none, bit_not, bit-full, bit_below, both-shared, shared-both, word-ext}
use Rattle.words.proofs.ChangeLaws.{bit-without, bit-without_other, gathered-lt, bit-gathered}

-- a bit times a number
bit-times : (b x : ℕ) → b < 2 → b * x ≤ x
bit-times zero x h = rw (zero-mul x) zero-le
bit-times (suc zero) x h = rw (one-mul x) (le_refl x)
bit-times (suc (suc b)) x h = absurd (omega arith)

module _ (ws : List ℕ) where
  -- past the last pattern there is no weight
  pub weight-past : (p : ℕ) → length ws ≤ p → weight_of ws p ≡ 0
  weight-past p h = get_or-eq_default ws 0 h

  pub weight-inside : (p : ℕ) → 0 < weight_of ws p → p < length ws
  weight-inside p h = elim (dec_lt p (length ws)) [ yes l ↦ l | no n ↦ absurd (omega (arith, weight-past p (omega arith))) ]

  -- a pattern weighs at most what all weigh
  pub weight-whole : (p : ℕ) → weight_of ws p ≤ whole_weight ws
  unfolding whole_weight
  weight-whole p =
      elim (dec_lt p (length ws)) [ yes l ↦ sum-le (length ws) (weight_of ws) p l | no n ↦ omega (arith, weight-past p (omega arith)) ]

  -- ---- the sum over a word

  pub weight_sum_none : weight_sum ws 0 ≡ 0
  unfolding weight_sum
  weight_sum_none = sum-zero (length ws) _ (λ p l. rw (bit_none p) (zero-mul (weight_of ws p)))

  pub weight_sum-full : weight_sum ws (full (length ws)) ≡ whole_weight ws
  unfolding weight_sum whole_weight
  weight_sum-full = sum-ext (length ws) _ (weight_of ws) (λ p l. rw (bit-full (length ws) p l) (one-mul (weight_of ws p)))

  pub weight_sum-le : (w : ℕ) → weight_sum ws w ≤ whole_weight ws
  unfolding weight_sum whole_weight
  weight_sum-le w = sum_mono (length ws) _ (weight_of ws) (λ p l. bit-times (bit w p) (weight_of ws p) (bit-lt w p))

  pub weight_sum-without : (w p : ℕ) → bit w p ≡ 1 → p < length ws → weight_sum ws w ≡ weight_of ws p + weight_sum ws (without w p)
  unfolding weight_sum
  weight_sum-without w p e l =
      omega (
        arith,
        sum-at (length ws) (λ q. bit w q * weight_of ws q) (λ q. bit (without w p) q * weight_of ws q) p l
            (λ q k n. ap (λ (b : ℕ). b * weight_of ws q) (sym (bit-without_other w p q n))),
        ap (λ (b : ℕ). b * weight_of ws p) e ∙ one-mul (weight_of ws p),
        ap (λ (b : ℕ). b * weight_of ws p) (bit-without w p) ∙ zero-mul (weight_of ws p),
      )

  -- a pattern of the word weighs at most the sum
  pub weight-le : (w p : ℕ) → bit w p ≡ 1 → weight_of ws p ≤ weight_sum ws w
  weight-le w p e =
      elim (dec_lt p (length ws)) [
        | yes l ↦ omega (arith, weight_sum-without w p e l)
        | no n ↦ omega (arith, weight-past p (omega arith))
      ]

  -- ---- the word of the weighted patterns

  pub weighted-true : (p : ℕ) → weighted ws p ≡ true → 0 < weight_of ws p
  unfolding weighted
  weighted-true p e =
      let n = eqb-false (weight_of ws p) 0 (not-true _ e) in
      omega arith

  pub true-weighted : (p : ℕ) → 0 < weight_of ws p → weighted ws p ≡ true
  unfolding weighted
  true-weighted p h = rw (ne_eqb (weight_of ws p) 0 (λ e. omega arith))

  pub false-weighted : (p : ℕ) → weight_of ws p ≡ 0 → weighted ws p ≡ false
  unfolding weighted
  false-weighted p e = rw (eq-eqb (weight_of ws p) 0 e)

  pub mask_lt : mask ws < 2 ^ length ws
  unfolding mask
  mask_lt = gathered-lt (weighted ws) (length ws)

  pub bit_mask : (p : ℕ) → bit (mask ws) p ≡ cond (weighted ws p) 1 0
  unfolding mask
  bit_mask p =
      elim (dec_lt p (length ws)) [
        | yes l ↦ bit-gathered (weighted ws) (length ws) p l
        | no n ↦ rw (false-weighted p (weight-past p (omega arith))) (bit_not (mask ws) p (λ e. n (bit_below (mask ws) (length ws) p mask_lt e)))
      ]

  -- a pattern is in the mask exactly where it has weight
  pub mask-weight : (p : ℕ) → bit (mask ws) p ≡ 1 → 0 < weight_of ws p
  mask-weight p e = go (weighted ws p) refl
    where
      go : (b : Bool) → weighted ws p ≡ b → 0 < weight_of ws p
      go true t = weighted-true p t
      go false t = absurd (omega (arith, e, rw t at (bit_mask p)))

  pub weight-mask : (p : ℕ) → 0 < weight_of ws p → bit (mask ws) p ≡ 1
  weight-mask p h = rw (true-weighted p h) at (bit_mask p)

  -- a word weighs nothing exactly where it has no weighted pattern
  pub weight_sum-zero : (w : ℕ) → bit_and w (mask ws) ≡ 0 → weight_sum ws w ≡ 0
  unfolding weight_sum
  weight_sum-zero w e = sum-zero (length ws) _ (λ p l. at p (ℕ_discrete (bit w p) 1))
    where
      none : (p : ℕ) → bit w p ≡ 1 → weight_of ws p ≡ 0
      none p b =
          elim (ℕ_discrete (weight_of ws p) 0) [
            | yes z ↦ z
            | no n ↦ absurd (omega (arith, both-shared w (mask ws) p b (weight-mask p (omega arith)), ap (λ (x : ℕ). bit x p) e, bit_none p))
          ]

      at : (p : ℕ) → Dec (bit w p ≡ 1) → bit w p * weight_of ws p ≡ 0
      at p (yes b) = rw (none p b) (mul-zero (bit w p))
      at p (no n) = rw (bit_not w p n) (zero-mul (weight_of ws p))

  pub zero-weight_sum : (w : ℕ) → weight_sum ws w ≡ 0 → bit_and w (mask ws) ≡ 0
  zero-weight_sum w e = word-ext (length ws) (omega (arith, and_le_r w (mask ws), mask_lt)) (pow_pos (length ws)) (λ p l. bit_not _ p (never p) ∙ sym (bit_none p))
    where
      never : (p : ℕ) → bit (bit_and w (mask ws)) p ≡ 1 → ⊥
      never p b =
          let (in-word, in-mask) = shared-both w (mask ws) p b in
          omega (arith, weight-le w p in-word, mask-weight p in-mask)

-- ---- what the check of weights gives

pub weighed : (P : ℕ) (ws : List ℕ) → weights_misfit P ws ≡ false → over_weight ws ≡ false → Weighed P ws
unfolding weights_misfit over_weight
weighed P ws a b = record { one_each = eqb-true _ _ (not-false _ a); light = ltb-false _ _ b }

pub weighed-good : {P : ℕ} {ws : List ℕ} → Weighed P ws → (weights_misfit P ws ≡ false) × (over_weight ws ≡ false)
unfolding weights_misfit over_weight
weighed-good {P} {ws} h = (ap not (eq-eqb _ _ h.one_each), le-ltb _ _ h.light)

pub weighed-bounded : {P w : ℕ} {ws : List ℕ} → Weighed P ws → P ≤ 64 → w < 2 ^ P → Bounded ws w
weighed-bounded {P} {w} {ws} h few inside =
    record { few = omega arith; light = h.light; inside = rw h.one_each inside }

pub weight-light : {P : ℕ} {ws : List ℕ} → Weighed P ws → (p : ℕ) → weight_of ws p ≤ 1024
weight-light {P} {ws} h p = omega (arith, weight-whole ws p, h.light)
