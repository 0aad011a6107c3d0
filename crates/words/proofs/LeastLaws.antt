-- Laws of a word's least pattern, over any width: trailing zeros name it, it is in the word and none below it is,
-- what a word shares with the number before it is the word without it, and a decided word is that pattern alone.
-- Assumes nothing.
use mathlib.Core.Bool.{Bool, true, false, not, cond}
use mathlib.Core.Path.{◌≡◌, refl, sym, ap, ◌∙◌, subst}
use Prim.Native.Nat.{ℕ, zero, suc, ◌+◌, ◌-◌, ◌/◌, ◌%◌, ◌^◌, ◌≤◌, ◌<◌, suc-le-suc, zero-le}
use native.Mathlib.Decide.{ℕ_discrete}
use native.Mathlib.Nat.{mod-lt, le_of_suc-le-suc, not-suc-le-zero, zero-lt-suc, lt_irrefl, lt_trans, lt_of_not-le, le_antisymm, le_refl}
use native.Mathlib.Omega.{arith}
use lib.Arith.{lt-one}
use lib.Bits.{bit_and, and_step, and_self}
use lib.Count.{count_trailing_zeros, under}
use lib.Dec.{lit<, leb, eqb}
use lib.Pow.{pow_mono}
use borrow.Author.Tests.{eq-eqb, ne_eqb, le-leb, lt-leb}
use Rattle.words.specs.Words.{bit, has, without, alone, how_many, least_from, least}
use Rattle.words.proofs.BitLaws.{half_lt, bit-zero, bit-suc, bit-lt, bit_none, bit_below, bit-alone, bit-alone_other, alone-lt, word-ext}
use Rattle.words.proofs.ChangeLaws.{without-suc, without-zero, bit-without_other, without-le}
use Rattle.words.proofs.CountLaws.{many-without, many-zero, many_none}

-- ---- the trailing zeros are the least pattern

shifted : (c i w : ℕ) → least_from c (suc i) w ≡ suc (least_from c i (w / 2))
unfolding least_from has
shifted zero i w = refl
shifted (suc c) i w = rw (bit-suc w i, shifted c (suc i) w) (out (has (w / 2) i))
  where
    out : (b : Bool) → cond b (suc i) (suc (least_from c (suc i) (w / 2))) ≡ suc (cond b i (least_from c (suc i) (w / 2)))
    out true = refl
    out false = refl

pub zeros-least : (k w : ℕ) → count_trailing_zeros k w ≡ least k w
unfolding count_trailing_zeros least least_from has
zeros-least zero w = refl
zeros-least (suc k) w = rw (bit-zero w, shifted k 0 w, zeros-least k (w / 2)) (go (w % 2) (mod-lt w (lit< tt)))
  where
    go : (d : ℕ) → d < 2 → under d (least_from k 0 (w / 2)) ≡ cond (eqb d 1) 0 (suc (least_from k 0 (w / 2)))
    go zero l = refl
    go (suc zero) l = refl
    go (suc (suc d)) l = omega arith

-- ---- what it is

zeros-below : (k w q : ℕ) → q < count_trailing_zeros k w → bit w q ≡ 0
unfolding count_trailing_zeros
zeros-below zero w q h = absurd (not-suc-le-zero h)
zeros-below (suc k) w q h = go (zeros-below k (w / 2)) q (w % 2) refl h
  where
    go : ((q : ℕ) → q < count_trailing_zeros k (w / 2) → bit (w / 2) q ≡ 0) → (q d : ℕ) → w % 2 ≡ d → q < under d (count_trailing_zeros k (w / 2)) → bit w q ≡ 0
    go rest zero zero e l = bit-zero w ∙ e
    go rest (suc q) zero e l = bit-suc w q ∙ rest q (le_of_suc-le-suc l)
    go rest zero (suc d) e l = absurd (not-suc-le-zero l)
    go rest (suc q) (suc d) e l = absurd (not-suc-le-zero l)

zeros-at : (k w : ℕ) → count_trailing_zeros k w < k → bit w (count_trailing_zeros k w) ≡ 1
unfolding count_trailing_zeros
zeros-at zero w h = absurd (not-suc-le-zero h)
zeros-at (suc k) w h = go (zeros-at k (w / 2)) (w % 2) refl h
  where
    go : (count_trailing_zeros k (w / 2) < k → bit (w / 2) (count_trailing_zeros k (w / 2)) ≡ 1) → (d : ℕ) → w % 2 ≡ d → under d (count_trailing_zeros k (w / 2)) < suc k → bit w (under d (count_trailing_zeros k (w / 2))) ≡ 1
    go rest zero e l = bit-suc w (count_trailing_zeros k (w / 2)) ∙ rest (le_of_suc-le-suc l)
    go rest (suc d) e l = omega (arith, bit-zero w, bit-lt w 0)

zeros-le : (k w : ℕ) → count_trailing_zeros k w ≤ k
unfolding count_trailing_zeros
zeros-le zero w = le_refl 0
zeros-le (suc k) w = go (w % 2) (zeros-le k (w / 2))
  where
    go : (d : ℕ) → count_trailing_zeros k (w / 2) ≤ k → under d (count_trailing_zeros k (w / 2)) ≤ suc k
    go zero h = suc-le-suc h
    go (suc d) h = zero-le

zeros-lt : (k w : ℕ) → 0 < w → w < 2 ^ k → count_trailing_zeros k w < k
unfolding count_trailing_zeros
zeros-lt zero w p h = absurd (lt_irrefl 0 (subst (λ (x : ℕ). 0 < x) (lt-one h) p))
zeros-lt (suc k) w p h = go (λ q. zeros-lt k (w / 2) q (half_lt k h)) (w % 2) refl
  where
    go : (0 < w / 2 → count_trailing_zeros k (w / 2) < k) → (d : ℕ) → w % 2 ≡ d → under d (count_trailing_zeros k (w / 2)) < suc k
    go rest zero e = suc-le-suc (rest (omega arith))
    go rest (suc d) e = zero-lt-suc k

pub least-le : (k w : ℕ) → least k w ≤ k
unfolding count_trailing_zeros
least-le k w = subst (λ (x : ℕ). x ≤ k) (zeros-least k w) (zeros-le k w)

-- no pattern below the least is in the word
pub least-below : (k w q : ℕ) → q < least k w → bit w q ≡ 0
least-below k w q h = zeros-below k w q (subst (λ (x : ℕ). q < x) (sym (zeros-least k w)) h)

-- the least pattern is in the word, where it is below the width
pub least_in : (k w : ℕ) → least k w < k → bit w (least k w) ≡ 1
least_in k w h = subst (λ (x : ℕ). x < k → bit w x ≡ 1) (zeros-least k w) (zeros-at k w) h

-- a word that is not empty has a least pattern
pub least_lt : (k w : ℕ) → 0 < w → w < 2 ^ k → least k w < k
least_lt k w p h = subst (λ (x : ℕ). x < k) (zeros-least k w) (zeros-lt k w p h)

-- a word of k bits that is not empty has its least pattern below k, at any width that holds k
pub least-found : (j k w : ℕ) → k ≤ j → w < 2 ^ k → (w ≡ 0 → ⊥) → (least j w < k) × (bit w (least j w) ≡ 1)
least-found j k w l h n =
    let at = least_in j w (least_lt j w (omega arith) (omega (arith, pow_mono l))) in
    (bit_below w k (least j w) h at, at)

-- it is the only pattern of the word with none below it
pub least-unique : (k w p : ℕ) → p < k → bit w p ≡ 1 → ((q : ℕ) → q < p → bit w q ≡ 0) → least k w ≡ p
least-unique k w p l at below =
    le_antisymm
    (le_of_suc-le-suc (lt_of_not-le (λ (g : suc p ≤ least k w). clash at (least-below k w p g))))
    (le_of_suc-le-suc (lt_of_not-le (λ (g : suc (least k w) ≤ p). clash (least_in k w (lt_trans g l)) (below (least k w) g))))
  where
    clash : {x : ℕ} → x ≡ 1 → x ≡ 0 → ⊥
    clash a b = omega arith

-- ---- the least pattern taken out

zeros-out : (k w : ℕ) → 0 < w → w < 2 ^ k → bit_and w (w - 1) ≡ without w (count_trailing_zeros k w)
unfolding count_trailing_zeros
zeros-out zero w p h = absurd (omega (arith, lt-one h))
zeros-out (suc k) w p h = go (λ q. zeros-out k (w / 2) q (half_lt k h)) (w % 2) refl
  where
    go : (0 < w / 2 → bit_and (w / 2) (w / 2 - 1) ≡ without (w / 2) (count_trailing_zeros k (w / 2))) → (d : ℕ) → w % 2 ≡ d → bit_and w (w - 1) ≡ without w (under d (count_trailing_zeros k (w / 2)))
    go rest zero e =
        let half : (w - 1) / 2 ≡ w / 2 - 1 = omega arith in
        omega (arith, and_step w (w - 1), ap (bit_and (w / 2)) half, rest (omega arith), without-suc w (count_trailing_zeros k (w / 2)))
    go rest (suc d) e =
        let half : (w - 1) / 2 ≡ w / 2 = omega arith in
        omega (arith, and_step w (w - 1), ap (bit_and (w / 2)) half, and_self (w / 2), without-zero w)

-- what a word shares with the number before it
pub pred-without : (k w : ℕ) → 0 < w → w < 2 ^ k → bit_and w (w - 1) ≡ without w (least k w)
pred-without k w p h = zeros-out k w p h ∙ ap (without w) (zeros-least k w)

-- something is left without the least pattern exactly where the word has two or more
pub left_several : (k w : ℕ) → 0 < w → w < 2 ^ k → not (eqb (without w (least k w)) 0) ≡ leb 2 (how_many k w)
left_several k w p h = go (ℕ_discrete (without w (least k w)) 0)
  where
    one_less : how_many k (without w (least k w)) + 1 ≡ how_many k w
    one_less = omega (arith, many-without k w (least k w) (least_lt k w p h), least_in k w (least_lt k w p h))

    go : Dec (without w (least k w) ≡ 0) → not (eqb (without w (least k w)) 0) ≡ leb 2 (how_many k w)
    go (yes e) = rw (eq-eqb _ _ e, lt-leb 2 (how_many k w) (omega (arith, one_less, ap (how_many k) e, many_none k)))
    go (no n) =
        let some : how_many k (without w (least k w)) ≡ 0 → ⊥ = λ z. n (many-zero k (without w (least k w)) (omega (arith, without-le w (least k w))) z) in
        rw (ne_eqb _ _ n, le-leb 2 (how_many k w) (omega (arith, one_less, some)))

-- ---- a decided word

-- a word with one pattern is its least pattern alone
pub decided-alone : (k w : ℕ) → w < 2 ^ k → how_many k w ≡ 1 → w ≡ alone (least k w)
decided-alone k w h e = word-ext k h (alone-lt k (least k w) p<) same
  where
    some_in : 0 < w
    some_in = elim (ℕ_discrete w 0) [ yes z ↦ absurd (omega (arith, many_none k, ap (how_many k) z)) | no n ↦ omega arith ]

    p< : least k w < k
    p< = least_lt k w some_in h

    rest : without w (least k w) ≡ 0
    rest =
        many-zero k (without w (least k w)) (omega (arith, without-le w (least k w)))
        (omega (arith, many-without k w (least k w) p<, least_in k w p<))

    same : (q : ℕ) → q < k → bit w q ≡ bit (alone (least k w)) q
    same q l =
        elim (ℕ_discrete q (least k w)) [
          | yes z ↦ rw z (least_in k w p< ∙ sym (bit-alone (least k w)))
          | no n ↦ sym (bit-without_other w (least k w) q n) ∙ ap (λ (x : ℕ). bit x q) rest ∙ bit_none q ∙ sym (bit-alone_other (least k w) q n)
        ]
