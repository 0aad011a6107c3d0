-- Laws of how many patterns a word has, over any width: the count of ones, one less without a pattern, none and one alone.
-- Assumes nothing.
use mathlib.Core.Path.{◌≡◌, refl, sym, ap, ◌∙◌}
use Prim.Native.Nat.{ℕ, zero, suc, ◌+◌, ◌/◌, ◌%◌, ◌^◌, ◌≤◌, ◌<◌}
use native.Mathlib.Decide.{ℕ_discrete}
use native.Mathlib.Nat.{le_refl}
use native.Mathlib.Omega.{arith}
use lib.Arith.{lt-one}
use lib.Count.{ones, ones_step}
use Rattle.loops.specs.Sums.{sum_to}
use Rattle.words.specs.Words.{bit, without, alone, full, how_many}
use Rattle.loops.proofs.SumLaws.{sum-at, sum-zero, sum-le, sum_mono}
use Rattle.words.proofs.BitLaws.{half_lt, bit-zero, bit-suc, bit-lt, bit_none, bit-full, bit-alone, bit-alone_other, word-ext, bit_not}
use Rattle.words.proofs.ChangeLaws.{bit-without, bit-without_other}

-- ---- the count of ones is how many patterns are in the word

many-step : (k w : ℕ) → how_many (suc k) w ≡ w % 2 + how_many k (w / 2)
unfolding how_many sum_to
many-step zero w = omega (arith, bit-zero w)
many-step (suc k) w = omega (arith, many-step k w, bit-suc w k)

pub ones-many : (k w : ℕ) → w < 2 ^ k → ones w ≡ how_many k w
unfolding ones how_many sum_to
ones-many zero w h = ap ones (lt-one h)
ones-many (suc k) w h = omega (arith, ones_step w, many-step k w, ones-many k (w / 2) (half_lt k h))

-- how many there are does not depend on a width that holds the word
pub many-width : (j k w : ℕ) → w < 2 ^ j → w < 2 ^ k → how_many j w ≡ how_many k w
many-width j k w hj hk = sym (ones-many j w hj) ∙ ones-many k w hk

-- ---- one less without a pattern

pub many-without : (k w p : ℕ) → p < k → how_many k (without w p) + bit w p ≡ how_many k w
unfolding how_many
many-without k w p h =
    omega (arith, sum-at k (bit (without w p)) (bit w) p h (λ q l n. bit-without_other w p q n), bit-without w p)

-- ---- at most all, none in an empty word

pub many-le : (k w : ℕ) → how_many k w ≤ k
unfolding how_many sum_to
many-le zero w = le_refl 0
many-le (suc k) w = omega (arith, many-le k w, bit-lt w k)

pub many-zero : (k w : ℕ) → w < 2 ^ k → how_many k w ≡ 0 → w ≡ 0
unfolding how_many
many-zero k w h e =
    word-ext k h (omega arith) (λ p l. omega (arith, sum-le k (bit w) p l, bit_none p))

pub many_none : (k : ℕ) → how_many k 0 ≡ 0
unfolding how_many
many_none k = sum-zero k (bit 0) (λ p l. bit_none p)

many-full_to : (n k : ℕ) → n ≤ k → how_many n (full k) ≡ n
unfolding how_many sum_to
many-full_to zero k h = refl
many-full_to (suc n) k h = omega (arith, many-full_to n k (omega arith), bit-full k n h)

pub many-full : (k : ℕ) → how_many k (full k) ≡ k
many-full k = many-full_to k k (le_refl k)

-- ---- decided: one pattern

pub many-alone : (k p : ℕ) → p < k → how_many k (alone p) ≡ 1
unfolding how_many
many-alone k p h =
    omega (arith, sum-at k (bit (alone p)) (bit 0) p h (λ q l n. bit-alone_other p q n ∙ sym (bit_none q)), bit-alone p, bit_none p, sum-zero k (bit 0) (λ q l. bit_none q))

-- a word with one pattern has no other
pub decided-one : (k w p q : ℕ) → p < k → q < k → how_many k w ≡ 1 → bit w p ≡ 1 → bit w q ≡ 1 → q ≡ p
unfolding how_many
decided-one k w p q hp hq e a b =
    elim (ℕ_discrete q p) [
      | yes z ↦ z
      | no n ↦ absurd (omega (arith, many-without k w p hp, sum-le k (bit (without w p)) q hq, bit-without_other w p q n))
    ]

-- a subset of a word has no more patterns
pub many-sub : (k v w : ℕ) → ((p : ℕ) → bit v p ≤ bit w p) → how_many k v ≤ how_many k w
unfolding how_many
many-sub k v w h = sum_mono k (bit v) (bit w) (λ p l. h p)

-- a word that has no pattern but p has one at most
pub many-one : (k w p : ℕ) → p < k → ((q : ℕ) → bit w q ≡ 1 → q ≡ p) → how_many k w ≤ 1
unfolding how_many
many-one k w p l h =
    omega (arith, many-without k w p l, bit-lt w p, sum-zero k (bit (without w p)) (λ q j. none q (ℕ_discrete q p)))
  where
    none : (q : ℕ) → Dec (q ≡ p) → bit (without w p) q ≡ 0
    none q (yes e) = rw e (bit-without w p)
    none q (no n) = bit-without_other w p q n ∙ bit_not w q (λ e. n (h q e))
