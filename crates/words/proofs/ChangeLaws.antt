-- Laws of a word that changes: a pattern taken out, a pattern put in, and a word gathered pattern by pattern.
-- Assumes nothing.
use mathlib.Core.Bool.{Bool, true, false, cond}
use mathlib.Core.Path.{◌≡◌, refl, sym, ap, ap₂, ◌∙◌}
use Prim.Native.Nat.{ℕ, zero, suc, ◌+◌, ◌-◌, ◌*◌, ◌/◌, ◌%◌, ◌^◌, ◌≤◌, ◌<◌}
use native.Mathlib.Decide.{ℕ_discrete}
use native.Mathlib.Nat.{pow-succ', mul_assoc, mul_comm, one-mul, zero-mul, sub-zero, not-suc-le-zero, le_of_suc-le-suc}
use native.Mathlib.Omega.{arith}
use lib.Pow.{pow_pos}
use Rattle.loops.specs.Sums.{sum_to}
use Rattle.words.specs.Words.{bit, without, joined, alone, gathered}
use Rattle.words.proofs.BitLaws.{half_lt, bit-zero, bit-suc, bit-fits, bit_le, bit_high}

-- ---- a pattern taken out

pub without-suc : (w p : ℕ) → without w (suc p) ≡ without (w / 2) p * 2 + w % 2
unfolding without
without-suc w p =
    let x = bit (w / 2) p * 2 ^ p in
    let h : x ≤ w / 2 = bit-fits (w / 2) p in
    let e : bit w (suc p) * 2 ^ suc p ≡ x * 2 = ap₂ (λ (b c : ℕ). b * c) (bit-suc w p) (pow-succ' 2 p ∙ mul_comm 2 (2 ^ p)) ∙ sym (mul_assoc (bit (w / 2) p) (2 ^ p) 2) in
    rw e (omega arith)

pub without-zero : (w : ℕ) → without w 0 ≡ w / 2 * 2
unfolding without
without-zero w = omega (arith, bit-zero w)

half-zero : (w : ℕ) → without w 0 / 2 ≡ w / 2
half-zero w = omega (arith, without-zero w)

half-suc : (w p : ℕ) → without w (suc p) / 2 ≡ without (w / 2) p
half-suc w p = omega (arith, without-suc w p)

low-suc : (w p : ℕ) → without w (suc p) % 2 ≡ w % 2
low-suc w p = omega (arith, without-suc w p)

pub bit-without : (w p : ℕ) → bit (without w p) p ≡ 0
bit-without w zero = bit-zero (without w 0) ∙ omega (arith, without-zero w)
bit-without w (suc p) = bit-suc (without w (suc p)) p ∙ ap (λ (x : ℕ). bit x p) (half-suc w p) ∙ bit-without (w / 2) p

pub bit-without_other : (w p q : ℕ) → (q ≡ p → ⊥) → bit (without w p) q ≡ bit w q
bit-without_other w zero zero h = absurd (h refl)
bit-without_other w zero (suc q) h = bit-suc (without w 0) q ∙ ap (λ (x : ℕ). bit x q) (half-zero w) ∙ sym (bit-suc w q)
bit-without_other w (suc p) zero h = bit-zero (without w (suc p)) ∙ low-suc w p ∙ sym (bit-zero w)
bit-without_other w (suc p) (suc q) h =
    bit-suc (without w (suc p)) q ∙ ap (λ (x : ℕ). bit x q) (half-suc w p) ∙ bit-without_other (w / 2) p q (λ e. h (ap suc e)) ∙ sym (bit-suc w q)

pub without-le : (w p : ℕ) → without w p ≤ w
unfolding without
without-le w p = omega arith

-- what the code subtracts
pub without-set : (w p : ℕ) → bit w p ≡ 1 → without w p ≡ w - 2 ^ p
unfolding without
without-set w p e = ap (λ (b : ℕ). w - b * 2 ^ p) e ∙ ap (λ (x : ℕ). w - x) (one-mul (2 ^ p))

pub without-unset : (w p : ℕ) → bit w p ≡ 0 → without w p ≡ w
unfolding without
without-unset w p e = ap (λ (b : ℕ). w - b * 2 ^ p) e ∙ ap (λ (x : ℕ). w - x) (zero-mul (2 ^ p)) ∙ sub-zero w

-- taking a pattern out makes the word less, so a walk of its patterns ends
pub without-less : (w p : ℕ) → bit w p ≡ 1 → without w p < w
without-less w p e = omega (arith, without-set w p e, bit_le w p e, pow_pos p)

-- ---- a pattern put in

-- what the code adds
pub joined-set : (w p : ℕ) → bit w p ≡ 1 → joined w p ≡ w
unfolding joined
joined-set w p e = rw e (omega (arith, zero-mul (2 ^ p)))

pub joined-unset : (w p : ℕ) → bit w p ≡ 0 → joined w p ≡ w + 2 ^ p
unfolding joined
joined-unset w p e = rw e (omega (arith, one-mul (2 ^ p)))

joined-suc : (w p : ℕ) → joined w (suc p) ≡ joined (w / 2) p * 2 + w % 2
unfolding joined
joined-suc w p =
    let x = (1 - bit (w / 2) p) * 2 ^ p in
    let e : (1 - bit w (suc p)) * 2 ^ suc p ≡ x * 2 = ap₂ (λ (b c : ℕ). (1 - b) * c) (bit-suc w p) (pow-succ' 2 p ∙ mul_comm 2 (2 ^ p)) ∙ sym (mul_assoc (1 - bit (w / 2) p) (2 ^ p) 2) in
    rw e (omega arith)

joined-zero : (w : ℕ) → joined w 0 ≡ w / 2 * 2 + 1
unfolding joined
joined-zero w = omega (arith, bit-zero w)

-- a word of k bits with a pattern below k is one of k bits
pub joined-lt : (k w p : ℕ) → w < 2 ^ k → p < k → joined w p < 2 ^ k
joined-lt zero w p h l = absurd (not-suc-le-zero l)
joined-lt (suc k) w zero h l = omega (arith, joined-zero w, half_lt k h, pow-succ' 2 k)
joined-lt (suc k) w (suc p) h l = omega (arith, joined-suc w p, joined-lt k (w / 2) p (half_lt k h) (le_of_suc-le-suc l), pow-succ' 2 k)

half-joined : (w p : ℕ) → joined w (suc p) / 2 ≡ joined (w / 2) p
half-joined w p = omega (arith, joined-suc w p)

pub bit-joined : (w p : ℕ) → bit (joined w p) p ≡ 1
bit-joined w zero = bit-zero (joined w 0) ∙ omega (arith, joined-zero w)
bit-joined w (suc p) = bit-suc (joined w (suc p)) p ∙ ap (λ (x : ℕ). bit x p) (half-joined w p) ∙ bit-joined (w / 2) p

pub bit-joined_other : (w p q : ℕ) → (q ≡ p → ⊥) → bit (joined w p) q ≡ bit w q
bit-joined_other w zero zero h = absurd (h refl)
bit-joined_other w zero (suc q) h =
    let half : joined w 0 / 2 ≡ w / 2 = omega (arith, joined-zero w) in
    bit-suc (joined w 0) q ∙ ap (λ (x : ℕ). bit x q) half ∙ sym (bit-suc w q)
bit-joined_other w (suc p) zero h = bit-zero (joined w (suc p)) ∙ omega (arith, joined-suc w p) ∙ sym (bit-zero w)
bit-joined_other w (suc p) (suc q) h =
    bit-suc (joined w (suc p)) q ∙ ap (λ (x : ℕ). bit x q) (half-joined w p) ∙ bit-joined_other (w / 2) p q (λ e. h (ap suc e)) ∙ sym (bit-suc w q)

-- ---- a word gathered pattern by pattern

module _ (f : ℕ → Bool) where
  pub gathered-lt : (k : ℕ) → gathered k f < 2 ^ k
  unfolding gathered alone sum_to
  gathered-lt zero = pow_pos 0
  gathered-lt (suc k) = go (f k) (gathered-lt k)
    where
      go : (b : Bool) → gathered k f < 2 ^ k → gathered k f + cond b (alone k) 0 < 2 ^ suc k
      go true h = omega (arith, h, pow-succ' 2 k)
      go false h = omega (arith, h, pow-succ' 2 k)

  pub gathered_none : gathered 0 f ≡ 0
  unfolding gathered sum_to
  gathered_none = refl

  -- one more pattern at which the test passes, or fails
  pub gathered_more : (k : ℕ) → f k ≡ true → gathered (suc k) f ≡ joined (gathered k f) k
  unfolding gathered alone sum_to
  gathered_more k t = rw t (sym (joined-unset (gathered k f) k (bit_high (gathered k f) k (gathered-lt k))))

  pub gathered-skip : (k : ℕ) → f k ≡ false → gathered (suc k) f ≡ gathered k f
  unfolding gathered sum_to
  gathered-skip k t = rw t (omega arith)

  -- its patterns are those at which the test passes
  pub bit-gathered : (k p : ℕ) → p < k → bit (gathered k f) p ≡ cond (f p) 1 0
  bit-gathered zero p h = absurd (not-suc-le-zero h)
  bit-gathered (suc k) p h = go (bit-gathered k p) (f k) refl (ℕ_discrete p k)
    where
      go : (p < k → bit (gathered k f) p ≡ cond (f p) 1 0) → (b : Bool) → f k ≡ b → Dec (p ≡ k) → bit (gathered (suc k) f) p ≡ cond (f p) 1 0
      go rest true t (yes e) = rw (gathered_more k t, e, t) (bit-joined (gathered k f) k)
      go rest true t (no n) = rw (gathered_more k t) (bit-joined_other (gathered k f) k p n ∙ rest (omega arith))
      go rest false t (yes e) = rw (gathered-skip k t, e, t) (bit_high (gathered k f) k (gathered-lt k))
      go rest false t (no n) = rw (gathered-skip k t) (rest (omega arith))
