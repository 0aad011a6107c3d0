-- Sums over the numbers below n, and the indicator of an equality.
use mathlib.Core.Bool.{cond}
use mathlib.Core.Path.{◌≡◌, refl, ap}
use Prim.Native.Nat.{ℕ, zero, suc, ◌+◌, ◌*◌, ◌≤◌, ◌<◌, zero-le}
use native.Mathlib.Decide.{ℕ_discrete, le_ind}
use native.Mathlib.Nat.{le_refl, le_trans, le-add_right}
use native.Mathlib.Numerals.{add-one}
use native.Mathlib.Omega.{arith}
use lib.Dec.{eqb}
use borrow.Author.Tests.{eq-eqb, ne_eqb}
use Rattle.loops.specs.Sums.{sum_to}

-- 1 where a and b are equal, and 0 where they are not
unfoldable pub same : ℕ → ℕ → ℕ
same a b = cond (eqb a b) 1 0

pub same_yes : (a b : ℕ) → a ≡ b → same a b ≡ 1
unfolding same
same_yes a b e = rw (eq-eqb a b e)

pub same_no : (a b : ℕ) → (a ≡ b → ⊥) → same a b ≡ 0
unfolding same
same_no a b h = rw (ne_eqb a b h)

pub sum-ext : (n : ℕ) (f g : ℕ → ℕ) → ((i : ℕ) → i < n → f i ≡ g i) → sum_to n f ≡ sum_to n g
unfolding sum_to
sum-ext zero f g h = refl
sum-ext (suc n) f g h = omega (arith, sum-ext n f g (λ i k. h i (omega arith)), h n (le_refl (suc n)))

pub sum_mono : (n : ℕ) (f g : ℕ → ℕ) → ((i : ℕ) → i < n → f i ≤ g i) → sum_to n f ≤ sum_to n g
unfolding sum_to
sum_mono zero f g h = zero-le
sum_mono (suc n) f g h = omega (arith, sum_mono n f g (λ i k. h i (omega arith)), h n (le_refl (suc n)))

-- one term more, and more terms
pub sum_more : (n : ℕ) (f : ℕ → ℕ) → sum_to (n + 1) f ≡ sum_to n f + f n
unfolding sum_to
sum_more n f = rw add-one

pub sum-up_to : (m n : ℕ) (f : ℕ → ℕ) → m ≤ n → sum_to m f ≤ sum_to n f
unfolding sum_to
sum-up_to m n f h = le_ind (λ (k : ℕ). sum_to m f ≤ sum_to k f) (le_refl (sum_to m f)) (λ k l e. le_trans e (le-add_right (sum_to k f) (f k))) n h

-- two families that differ at p at most
pub sum-at : (n : ℕ) (f g : ℕ → ℕ) (p : ℕ) → p < n → ((i : ℕ) → i < n → (i ≡ p → ⊥) → f i ≡ g i) → sum_to n f + g p ≡ sum_to n g + f p
unfolding sum_to
sum-at zero f g p k h = omega arith
sum-at (suc n) f g p k h =
    elim (ℕ_discrete n p) [
      | yes e ↦ omega (arith, ap f e, ap g e, sum-ext n f g (λ i l. h i (omega arith) (λ z. omega arith)))
      | no e ↦ omega (arith, h n (le_refl (suc n)) e, sum-at n f g p (omega arith) (λ i l. h i (omega arith)))
    ]

pub sum-zero : (n : ℕ) (f : ℕ → ℕ) → ((i : ℕ) → i < n → f i ≡ 0) → sum_to n f ≡ 0
unfolding sum_to
sum-zero zero f h = refl
sum-zero (suc n) f h = omega (arith, sum-zero n f (λ i k. h i (omega arith)), h n (le_refl (suc n)))

-- a term is at most the sum, and a positive sum has a positive term
pub sum-le : (n : ℕ) (f : ℕ → ℕ) (i : ℕ) → i < n → f i ≤ sum_to n f
unfolding sum_to
sum-le zero f i h = omega arith
sum-le (suc n) f i h = elim (ℕ_discrete i n) [ yes e ↦ omega (arith, ap f e) | no e ↦ omega (arith, sum-le n f i (omega arith)) ]

-- n terms of at most b are n times b at most
pub sum-most : (n b : ℕ) (f : ℕ → ℕ) → ((i : ℕ) → i < n → f i ≤ b) → sum_to n f ≤ n * b
unfolding sum_to
sum-most zero b f h = zero-le
sum-most (suc n) b f h = omega (arith, sum-most n b f (λ i k. h i (omega arith)), h n (le_refl (suc n)))

-- a family that is below another, and strictly so somewhere, has a lesser sum
pub sum_less : (n : ℕ) (f g : ℕ → ℕ) (p : ℕ) → p < n → ((i : ℕ) → i < n → f i ≤ g i) → f p < g p → sum_to n f < sum_to n g
unfolding sum_to
sum_less zero f g p k h l = absurd (omega arith)
sum_less (suc n) f g p k h l =
    elim (ℕ_discrete p n) [
      | yes e ↦ omega (arith, ap f e, ap g e, sum_mono n f g (λ i j. h i (omega arith)))
      | no e ↦ omega (arith, h n (le_refl (suc n)), sum_less n f g p (omega arith) (λ i j. h i (omega arith)) l)
    ]

pub sum-pos : (n : ℕ) (f : ℕ → ℕ) → 0 < sum_to n f → (i : ℕ) × (i < n) × (0 < f i)
unfolding sum_to
sum-pos zero f h = absurd (omega arith)
sum-pos (suc n) f h =
    elim (ℕ_discrete (f n) 0) [
      | yes e ↦ let (i, k, z) = sum-pos n f (omega arith) in (i, omega arith, z)
      | no e ↦ (n, le_refl (suc n), omega arith)
    ]
