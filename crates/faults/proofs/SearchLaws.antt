-- Laws of a search: the turns of the loop that makes it, and that what it finds is the first that fails.
-- Assumes nothing.
use mathlib.Core.Bool.{Bool, true, false, cond, false≢true}
use mathlib.Core.Path.{◌≡◌, refl, sym, ap, ◌∙◌}
use Prim.Native.Nat.{ℕ, zero, suc, ◌+◌, ◌-◌, ◌≤◌, ◌<◌}
use native.Mathlib.Decide.{ℕ_discrete}
use native.Mathlib.Numerals.{add-one}
use native.Mathlib.Omega.{arith}
use lib.Dec.{ltb}
use borrow.Author.Tests.{ltb-true, ltb-false}
use Rattle.loops.specs.Tests.{all_to}
use Rattle.faults.specs.Places.{first_failing, First}
use Rattle.loops.proofs.TestLaws.{T_true, true-T, all_of}

-- ---- the loop

pub search_begun : (f : ℕ → Bool) (n : ℕ) → first_failing f 0 (n - 0) ≡ first_failing f 0 n
search_begun f n =
    let all : n - 0 ≡ n = omega arith in
    ap (first_failing f 0) all

module _ (f : ℕ → Bool) (n : ℕ) {R : ℕ} {k : ℕ} (inv : first_failing f k (n - k) ≡ R) where
  -- a number is left to look at
  search_here : k < n → cond (f k) (first_failing f (suc k) (n - (k + 1))) k ≡ R
  unfolding first_failing
  search_here h =
      let left : n - k ≡ suc (n - (k + 1)) = omega arith in
      sym (ap (first_failing f k) left) ∙ inv

  -- it passes
  pub search_turn : k < n → f k ≡ true → first_failing f (k + 1) (n - (k + 1)) ≡ R
  search_turn h e =
      ap (λ (i : ℕ). first_failing f i (n - (k + 1))) (add-one k) ∙ sym (ap (λ (b : Bool). cond b (first_failing f (suc k) (n - (k + 1))) k) e) ∙ search_here h

  -- it fails, and ends the loop
  pub search_stop : k < n → f k ≡ false → k ≡ R
  search_stop h e = sym (ap (λ (b : Bool). cond b (first_failing f (suc k) (n - (k + 1))) k) e) ∙ search_here h

  -- none is left
  pub search_end : n ≤ k → k ≡ R
  unfolding first_failing
  search_end h =
      let none : n - k ≡ 0 = omega arith in
      sym (ap (first_failing f k) none) ∙ inv

-- ---- what is found

-- all before it pass, and where it is one of the numbers it fails
found : (f : ℕ → Bool) (k n : ℕ) → (first_failing f k n < k + n → f (first_failing f k n) ≡ false) × ((j : ℕ) → k ≤ j → j < first_failing f k n → f j ≡ true)
unfolding first_failing
found f k zero = (λ h. absurd (omega arith), λ j a h. absurd (omega arith))
found f k (suc n) = go (f k) refl (found f (suc k) n)
  where
    go : (b : Bool) → f k ≡ b → (first_failing f (suc k) n < suc k + n → f (first_failing f (suc k) n) ≡ false) × ((j : ℕ) → suc k ≤ j → j < first_failing f (suc k) n → f j ≡ true)
        → (cond b (first_failing f (suc k) n) k < k + suc n → f (cond b (first_failing f (suc k) n) k) ≡ false) × ((j : ℕ) → k ≤ j → j < cond b (first_failing f (suc k) n) k → f j ≡ true)
    go true e (last, all) =
        (λ h. last (omega arith), λ j a h. elim (ℕ_discrete j k) [ yes s ↦ ap f s ∙ e | no s ↦ all j (omega arith) h ])
    go false e rest = (λ h. e, λ j a h. absurd (omega arith))

module _ (f : ℕ → Bool) (n : ℕ) where
  pub search_first : first_failing f 0 n < n → First f n (first_failing f 0 n)
  search_first h = record { inside = h; fails = (found f 0 n).0 (omega arith); before = λ j l. (found f 0 n).1 j (omega arith) l }

  -- it is one of the numbers, unless all of them pass
  search_or : (((k : ℕ) → k < n → f k ≡ true) → ⊥) → first_failing f 0 n < n
  search_or some = go (ltb (first_failing f 0 n) n) refl
    where
      go : (b : Bool) → ltb (first_failing f 0 n) n ≡ b → first_failing f 0 n < n
      go true e = ltb-true (first_failing f 0 n) n e
      go false e =
          let past = ltb-false (first_failing f 0 n) n e in
          absurd (some (λ k l. (found f 0 n).1 k (omega arith) (omega arith)))

  -- so where one fails, and where a test of all of them does
  pub search_some : (k : ℕ) → k < n → f k ≡ false → first_failing f 0 n < n
  search_some k h e = search_or (λ all. false≢true (sym e ∙ all k h))

  pub search_all : all_to n f ≡ false → first_failing f 0 n < n
  search_all e = search_or (λ all. false≢true (sym e ∙ true-T (all_to n f) (all_of f n (λ k l. T_true (all k l)))))
