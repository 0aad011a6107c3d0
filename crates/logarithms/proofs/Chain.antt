-- A rule of a table's entries and a rule of its neighbours, at the whole table, from one test that is computed.
-- Assumes nothing.
use mathlib.Core.Bool.{Bool, true, ◌&&◌}
use mathlib.Core.List.{List, [], ◌∷◌}
use mathlib.Core.Path.{◌∙◌, subst, sym}
use Prim.Native.Nat.{ℕ, zero, suc, ◌+◌, ◌<◌, ◌≤◌}
use native.Mathlib.Nat.{add-zero, add-suc, suc-add, le_of_suc-le-suc, not-suc-le-zero}
use lib.Dec.{T}
use lib.Ieee.Fits.{and_l, and_r}
use lib.ListN.{length, get_or}

module _ (f : ℕ → ℕ → Bool) (g : ℕ → ℕ → Bool) where
  -- f passes at each entry of x ∷ xs with its place, counted from i, and g at each two neighbours
  abbrev chain : ℕ → ℕ → List ℕ → Bool
  chain i x [] = f i x
  chain i x (y ∷ ys) = f i x && (g x y && chain (suc i) y ys)

  entry : (i x : ℕ) (xs : List ℕ) (d : ℕ) → T (chain i x xs) → (k : ℕ) → k ≤ length xs → T (f (i + k) (get_or (x ∷ xs) k d))
  entry i x [] d t zero h = subst (λ (m : ℕ). T (f m x)) (sym (add-zero i)) t
  entry i x [] d t (suc k) h = absurd (not-suc-le-zero h)
  entry i x (y ∷ ys) d t zero h = subst (λ (m : ℕ). T (f m x)) (sym (add-zero i)) (and_l (f i x) _ t)
  entry i x (y ∷ ys) d t (suc k) h =
      subst (λ (m : ℕ). T (f m (get_or (y ∷ ys) k d))) (suc-add i k ∙ sym (add-suc i k))
      (entry (suc i) y ys d (and_r (g x y) _ (and_r (f i x) _ t)) k (le_of_suc-le-suc h))

  step : (i x : ℕ) (xs : List ℕ) (d : ℕ) → T (chain i x xs) → (k : ℕ) → k < length xs → T (g (get_or (x ∷ xs) k d) (get_or (x ∷ xs) (suc k) d))
  step i x [] d t k h = absurd (not-suc-le-zero h)
  step i x (y ∷ ys) d t zero h = and_l (g x y) _ (and_r (f i x) _ t)
  step i x (y ∷ ys) d t (suc k) h = step (suc i) y ys d (and_r (g x y) _ (and_r (f i x) _ t)) k (le_of_suc-le-suc h)

  -- the same of a whole list
  abbrev pub whole : ℕ → List ℕ → Bool
  whole i [] = true
  whole i (x ∷ xs) = chain i x xs

  pub entries : (i : ℕ) (l : List ℕ) (d : ℕ) → T (whole i l) → (k : ℕ) → k < length l → T (f (i + k) (get_or l k d))
  entries i [] d t k h = absurd (not-suc-le-zero h)
  entries i (x ∷ xs) d t k h = entry i x xs d t k (le_of_suc-le-suc h)

  pub neighbours : (i : ℕ) (l : List ℕ) (d : ℕ) → T (whole i l) → (k : ℕ) → suc k < length l → T (g (get_or l k d) (get_or l (suc k) d))
  neighbours i [] d t k h = absurd (not-suc-le-zero h)
  neighbours i (x ∷ xs) d t k h = step i x xs d t k (le_of_suc-le-suc h)
