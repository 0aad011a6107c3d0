-- Laws of a word's bits, over any width: by halves, of no pattern, of one and of all, of what two words share and have together,
-- and that two words with the same bits are the same.
-- Assumes nothing.
use mathlib.Core.Bool.{true, false, not}
use mathlib.Core.Path.{◌≡◌, refl, sym, ap, ap₂, ◌∙◌, subst}
use Prim.Native.Nat.{ℕ, min, max, zero, suc, ◌+◌, ◌-◌, ◌*◌, ◌/◌, ◌%◌, ◌^◌, ◌≤◌, ◌<◌, suc-le-suc}
use native.Mathlib.Decide.{dec_lt}
use native.Mathlib.Nat.{mod-lt, mod-le, div-one, pow-succ', div-div-eq-div-mul, div-mul-le_self, mul-le-mul_right, le_trans, zero-lt-suc, le_of_suc-le-suc, not-suc-le-zero, one-mul, zero-mul, mod-eq_of_lt, div-eq_of_lt}
use native.Mathlib.Numerals.{add-one}
use native.Mathlib.Omega.{arith}
use lib.Arith.{lt-one}
use lib.Bits.{bit_and, bit_or, and_step, or_step, or_lt}
use lib.Dec.{lit<, leb, eqb}
use lib.Pow.{shr_lt, pow-lt, pow_mono, pow_pos, split}
use borrow.Author.Tests.{eq-eqb, ne_eqb, eqb-true, leb-true, leb-false, le-leb, lt-leb}
use Rattle.words.specs.Words.{bit, has, union, alone, full, lacked, beyond}

-- ---- by halves

pub half_lt : {w : ℕ} (k : ℕ) → w < 2 ^ suc k → w / 2 < 2 ^ k
half_lt {w} k h = shr_lt k 1 (subst (λ (x : ℕ). w < 2 ^ x) (sym (add-one k)) h)

pub bit-zero : (w : ℕ) → bit w 0 ≡ w % 2
unfolding bit
bit-zero w = ap (λ (x : ℕ). x % 2) (div-one w)

pub bit-suc : (w p : ℕ) → bit w (suc p) ≡ bit (w / 2) p
unfolding bit
bit-suc w p = ap (λ (x : ℕ). x % 2) (ap (λ (d : ℕ). w / d) (pow-succ' 2 p) ∙ sym (div-div-eq-div-mul w 2 (2 ^ p)))

pub bit-lt : (w p : ℕ) → bit w p < 2
unfolding bit
bit-lt w p = mod-lt (w / 2 ^ p) (lit< tt)

-- a pattern's part of the word
pub bit-fits : (w p : ℕ) → bit w p * 2 ^ p ≤ w
unfolding bit
bit-fits w p = le_trans (mul-le-mul_right (2 ^ p) (mod-le (w / 2 ^ p) 2)) (div-mul-le_self w (2 ^ p))

pub bit_le : (w p : ℕ) → bit w p ≡ 1 → 2 ^ p ≤ w
bit_le w p e = subst (λ (x : ℕ). x ≤ w) (ap (λ (b : ℕ). b * 2 ^ p) e ∙ one-mul (2 ^ p)) (bit-fits w p)

-- a bit that is not 1 is 0
pub bit_not : (w p : ℕ) → (bit w p ≡ 1 → ⊥) → bit w p ≡ 0
bit_not w p n = omega (arith, bit-lt w p)

-- ---- as a test

pub has-true : (w p : ℕ) → has w p ≡ true → bit w p ≡ 1
unfolding has
has-true w p e = eqb-true _ _ e

pub true-has : (w p : ℕ) → bit w p ≡ 1 → has w p ≡ true
unfolding has
true-has w p e = eq-eqb _ _ e

pub false-has : (w p : ℕ) → bit w p ≡ 0 → has w p ≡ false
unfolding has
false-has w p e = ne_eqb (bit w p) 1 (λ h. omega (arith, e, h))

-- ---- no pattern, one pattern, all patterns

pub bit_none : (p : ℕ) → bit 0 p ≡ 0
bit_none zero = bit-zero 0
bit_none (suc p) = bit-suc 0 p ∙ bit_none p

pub alone-lt : (k p : ℕ) → p < k → alone p < 2 ^ k
unfolding alone
alone-lt k p h = pow-lt h

half-alone : (p : ℕ) → alone (suc p) / 2 ≡ alone p
unfolding alone
half-alone p = omega (arith, pow-succ' 2 p)

pub bit-alone : (p : ℕ) → bit (alone p) p ≡ 1
unfolding alone
bit-alone zero = bit-zero 1
bit-alone (suc p) = bit-suc (alone (suc p)) p ∙ ap (λ (x : ℕ). bit x p) (half-alone p) ∙ bit-alone p

pub bit-alone_other : (p q : ℕ) → (q ≡ p → ⊥) → bit (alone p) q ≡ 0
unfolding alone
bit-alone_other zero zero n = absurd (n refl)
bit-alone_other zero (suc q) n = bit-suc 1 q ∙ bit_none q
bit-alone_other (suc p) zero n = bit-zero (alone (suc p)) ∙ omega (arith, pow-succ' 2 p)
bit-alone_other (suc p) (suc q) n = bit-suc (alone (suc p)) q ∙ ap (λ (x : ℕ). bit x q) (half-alone p) ∙ bit-alone_other p q (λ e. n (ap suc e))

-- a word of k bits has no pattern from k on
pub bit_below : (w k p : ℕ) → w < 2 ^ k → bit w p ≡ 1 → p < k
bit_below w k p h e = go (dec_lt p k)
  where
    go : Dec (p < k) → p < k
    go (yes l) = l
    go (no l) = absurd (omega (arith, bit_le w p e, pow_mono {i = k} {j = p} (omega arith)))

pub bit_high : (w p : ℕ) → w < 2 ^ p → bit w p ≡ 0
bit_high w p h = bit_not w p (λ e. omega (arith, bit_le w p e))

pub full-lt : (k : ℕ) → full k < 2 ^ k
unfolding full
full-lt k = omega (arith, pow_pos k)

half_full : (k : ℕ) → full (suc k) / 2 ≡ full k
unfolding full
half_full k = omega (arith, pow-succ' 2 k, pow_pos k)

-- all patterns below k are in the full word
pub bit-full : (k p : ℕ) → p < k → bit (full k) p ≡ 1
unfolding full
bit-full zero p h = absurd (not-suc-le-zero h)
bit-full (suc k) zero h = bit-zero (full (suc k)) ∙ omega (arith, pow-succ' 2 k, pow_pos k)
bit-full (suc k) (suc p) h = bit-suc (full (suc k)) p ∙ ap (λ (x : ℕ). bit x p) (half_full k) ∙ bit-full k p (le_of_suc-le-suc h)

-- ---- the patterns that are not in a word

pub lacked-lt : (k w : ℕ) → lacked k w < 2 ^ k
unfolding lacked
lacked-lt k w = omega (arith, full-lt k)

pub bit-lacked : (k w p : ℕ) → w < 2 ^ k → p < k → bit (lacked k w) p ≡ 1 - bit w p
unfolding lacked full
bit-lacked zero w p h l = absurd (not-suc-le-zero l)
bit-lacked (suc k) w zero h l = bit-zero (lacked (suc k) w) ∙ omega (arith, pow-succ' 2 k, bit-zero w)
bit-lacked (suc k) w (suc p) h l =
    let half : lacked (suc k) w / 2 ≡ lacked k (w / 2) = omega (arith, pow-succ' 2 k, h) in
    bit-suc (lacked (suc k) w) p ∙ ap (λ (x : ℕ). bit x p) half ∙ bit-lacked k (w / 2) p (half_lt k h) (le_of_suc-le-suc l) ∙ ap (λ (b : ℕ). 1 - b) (sym (bit-suc w p))

-- ---- a pattern past the count

pub beyond-true : (k w : ℕ) → beyond k w ≡ true → 2 ^ k ≤ w
unfolding beyond
beyond-true k w e = leb-true _ _ e

pub beyond-false : (k w : ℕ) → beyond k w ≡ false → w < 2 ^ k
unfolding beyond
beyond-false k w e = leb-false _ _ e

pub false-beyond : (k w : ℕ) → w < 2 ^ k → beyond k w ≡ false
unfolding beyond
false-beyond k w h = lt-leb _ _ h

-- what is left of a word after shifting k places away
pub beyond-shift : (k w : ℕ) → not (eqb (w / 2 ^ k) 0) ≡ beyond k w
unfolding beyond
beyond-shift k w = go (dec_lt w (2 ^ k))
  where
    go : Dec (w < 2 ^ k) → not (eqb (w / 2 ^ k) 0) ≡ leb (2 ^ k) w
    go (yes l) = rw (lt-leb (2 ^ k) w l, eq-eqb (w / 2 ^ k) 0 (div-eq_of_lt l))
    go (no n) = rw (le-leb (2 ^ k) w (omega arith), ne_eqb (w / 2 ^ k) 0 (λ e. omega (arith, e, split w k, mod-lt w (pow_pos k), zero-mul (2 ^ k), ap (λ (x : ℕ). x * 2 ^ k) e)))

-- 1 shifted to a place that the width holds
pub one_shl : (k p : ℕ) → p < k → 1 * 2 ^ p % 2 ^ k ≡ 2 ^ p
one_shl k p h = ap (λ (x : ℕ). x % 2 ^ k) (one-mul (2 ^ p)) ∙ mod-eq_of_lt (pow-lt h)

-- ---- what two words share

-- a bit of what is made of two words bit by bit, where `low` says what two lowest bits give
module _ (op : ℕ → ℕ → ℕ) (low : ℕ → ℕ → ℕ) (step : (v w : ℕ) → op v w ≡ op (v / 2) (w / 2) * 2 + low (v % 2) (w % 2))
    (small : (a b : ℕ) → a < 2 → b < 2 → low a b < 2) where
  bit-op : (v w p : ℕ) → bit (op v w) p ≡ low (bit v p) (bit w p)
  bit-op v w zero =
      let s = small (v % 2) (w % 2) (mod-lt v (lit< tt)) (mod-lt w (lit< tt)) in
      bit-zero (op v w) ∙ omega (arith, step v w, s) ∙ sym (ap₂ low (bit-zero v) (bit-zero w))
  bit-op v w (suc p) =
      let s = small (v % 2) (w % 2) (mod-lt v (lit< tt)) (mod-lt w (lit< tt)) in
      let half : op v w / 2 ≡ op (v / 2) (w / 2) = omega (arith, step v w, s) in
      bit-suc (op v w) p ∙ ap (λ (x : ℕ). bit x p) half ∙ bit-op (v / 2) (w / 2) p ∙ sym (ap₂ low (bit-suc v p) (bit-suc w p))

min-bits : (a b : ℕ) → a < 2 → b < 2 → min a b ≡ a * b
min-bits zero zero ha hb = refl
min-bits zero (suc zero) ha hb = refl
min-bits (suc zero) zero ha hb = refl
min-bits (suc zero) (suc zero) ha hb = refl
min-bits zero (suc (suc b)) ha hb = absurd (omega arith)
min-bits (suc zero) (suc (suc b)) ha hb = absurd (omega arith)
min-bits (suc (suc a)) b ha hb = absurd (omega arith)

pub bit-and : (v w p : ℕ) → bit (bit_and v w) p ≡ bit v p * bit w p
bit-and v w p = bit-op bit_and min and_step (λ a b ha hb. omega arith) v w p ∙ min-bits (bit v p) (bit w p) (bit-lt v p) (bit-lt w p)

-- a pattern is shared exactly where both words have it
pub both-shared : (v w p : ℕ) → bit v p ≡ 1 → bit w p ≡ 1 → bit (bit_and v w) p ≡ 1
both-shared v w p a b = bit-and v w p ∙ ap₂ (λ (x y : ℕ). x * y) a b

pub shared-both : (v w p : ℕ) → bit (bit_and v w) p ≡ 1 → (bit v p ≡ 1) × (bit w p ≡ 1)
shared-both v w p e = go (bit v p) (bit w p) (bit-lt v p) (bit-lt w p) (sym (bit-and v w p) ∙ e)
  where
    go : (a b : ℕ) → a < 2 → b < 2 → a * b ≡ 1 → (a ≡ 1) × (b ≡ 1)
    go zero b ha hb e = absurd (omega (arith, zero-mul b))
    go (suc zero) b ha hb e = (refl, sym (one-mul b) ∙ e)
    go (suc (suc a)) b ha hb e = absurd (omega arith)

-- ---- what one of two words has

pub bit-union : (v w p : ℕ) → bit (union v w) p ≡ max (bit v p) (bit w p)
unfolding union
bit-union v w p = bit-op bit_or max or_step (λ a b ha hb. omega arith) v w p

pub union-lt : (k v w : ℕ) → v < 2 ^ k → w < 2 ^ k → union v w < 2 ^ k
unfolding union
union-lt k v w hv hw = or_lt k v w hv hw

-- ---- two words with the same patterns are the same

pub word-ext : (k : ℕ) {v w : ℕ} → v < 2 ^ k → w < 2 ^ k → ((p : ℕ) → p < k → bit v p ≡ bit w p) → v ≡ w
word-ext zero {v} {w} hv hw h = lt-one hv ∙ sym (lt-one hw)
word-ext (suc k) {v} {w} hv hw h =
    omega (
      arith,
      word-ext k (half_lt k hv) (half_lt k hw) (λ p l. sym (bit-suc v p) ∙ h (suc p) (suc-le-suc l) ∙ bit-suc w p),
      h 0 (zero-lt-suc k),
      bit-zero v,
      bit-zero w,
    )
