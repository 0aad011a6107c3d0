-- Laws of a list that a loop writes from the front, one entry a turn: with one value, or with what a function says of each index.
-- Assumes nothing.
use mathlib.Core.List.{List, [], ◌∷◌, ◌++◌, append-nil}
use mathlib.Core.Path.{◌≡◌, refl, ap, ◌∙◌}
use Prim.Native.Nat.{ℕ, zero, suc, ◌+◌, ◌≤◌, ◌<◌}
use native.Mathlib.Nat.{le_antisymm}
use native.Mathlib.Numerals.{add-one}
use native.Mathlib.Omega.{arith}
use lib.ListN.{length, get_or, set, drop, replicate, length-append, length-drop, length-replicate, drop_of_length-le}
use lib.Seq.{get_or-set_same, get_or-set_other}
use borrow.Author.Count.{below_more}

-- ---- one value

-- of the list d, the first n entries are v
pub record Filled {A : Type 0} (v : A) (d : List A) (n : ℕ) (l : List A) : Type 0 where
  pub within : n ≤ length d
  pub is : l ≡ replicate n v ++ drop n d

module _ {A : Type 0} (v : A) where
  pub filled_none : (d : List A) → Filled v d 0 d
  filled_none d = record { within = omega arith; is = refl }

  one_more : (n : ℕ) (d : List A) → n < length d → set (replicate n v ++ drop n d) n v ≡ replicate (suc n) v ++ drop (suc n) d
  one_more n [] h = absurd (omega arith)
  one_more zero (x ∷ d) h = refl
  one_more (suc n) (x ∷ d) h = ap (λ (l : List A). v ∷ l) (one_more n d (omega arith))

  module _ {d l : List A} {n : ℕ} (F : Filled v d n l) where
    pub filled-length : length l ≡ length d
    filled-length = ap length F.is ∙ simp (length-append, length-replicate, length-drop) (omega (arith, F.within))

    pub filled_more : n < length d → Filled v d (n + 1) (set l n v)
    filled_more h = record { within = omega arith; is = ap (λ (x : List A). set x n v) F.is ∙ rw add-one (one_more n d h) }

    pub filled-all : length d ≤ n → l ≡ replicate (length d) v
    filled-all h =
        F.is ∙ ap (λ (rest : List A). replicate n v ++ rest) (drop_of_length-le d h) ∙ append-nil (replicate n v)
        ∙ ap (λ (k : ℕ). replicate k v) (le_antisymm F.within h)

-- ---- what a function says of each index

-- one more entry that is as the function says
pub written_more : (f : ℕ → ℕ) (l : List ℕ) (n v : ℕ) → n < length l → v ≡ f n → ((k : ℕ) → k < n → get_or l k 0 ≡ f k)
    → (k : ℕ) → k < n + 1 → get_or (set l n v) k 0 ≡ f k
written_more f l n v h e before =
    below_more (λ k. get_or (set l n v) k 0 ≡ f k) n (λ k less. get_or-set_other l n k v 0 (λ z. omega arith) ∙ before k less) (get_or-set_same l n v 0 h ∙ e)
