-- Laws of the first refusal that holds, and that a number names one refusal.
-- Assumes nothing.
use mathlib.Core.Bool.{Bool, true, false, cond, true≢false}
use mathlib.Core.List.{List, [], ◌∷◌, ◌++◌}
use mathlib.Core.Path.{◌≡◌, refl, sym, ap, ◌∙◌}
use Prim.Native.Nat.{ℕ, zero, suc, ◌-◌, ◌≤◌}
use native.Mathlib.Omega.{arith}
use lib.Dec.{eqb}
use lib.ListN.{get_or}
use borrow.Author.Tests.{ne_eqb}
use Rattle.std.specs.Prelude.{Result, Ok, Err, is_err}
use Rattle.refusals.specs.declared.Refusal.{Refusal}
use Rattle.refusals.specs.declared.Refusal.TheVariants.{BadSize, BadWrap, BadCount, BadWeights, BadLength, BadList, Disagree, BadCell, BadPattern, BadSheet, BadDirection}
use Rattle.refusals.specs.Refusals.{number, number_of, Test, first_of, refused, answer, unless, checked}

-- ---- a number names one refusal

-- the refusals by their numbers, from 1 on
by_number : List Refusal
by_number = BadSize ∷ BadWrap ∷ BadCount ∷ BadWeights ∷ BadLength ∷ BadList ∷ Disagree ∷ BadCell ∷ BadPattern ∷ BadSheet ∷ BadDirection ∷ []

-- the refusal that a number names
pub named : ℕ → Refusal
unfolding by_number
named n = get_or by_number (n - 1) BadDirection

pub named-number : (r : Refusal) → named (number r) ≡ r
unfolding named number
named-number BadSize = refl
named-number BadWrap = refl
named-number BadCount = refl
named-number BadWeights = refl
named-number BadLength = refl
named-number BadList = refl
named-number Disagree = refl
named-number BadCell = refl
named-number BadPattern = refl
named-number BadSheet = refl
named-number BadDirection = refl

pub number-injective : (r s : Refusal) → number r ≡ number s → r ≡ s
number-injective r s e = sym (named-number r) ∙ ap named e ∙ named-number s

-- no refusal has the number 0
pub number-positive : (r : Refusal) → number r ≡ 0 → ⊥
unfolding number
number-positive BadSize e = omega arith
number-positive BadWrap e = omega arith
number-positive BadCount e = omega arith
number-positive BadWeights e = omega arith
number-positive BadLength e = omega arith
number-positive BadList e = omega arith
number-positive Disagree e = omega arith
number-positive BadCell e = omega arith
number-positive BadPattern e = omega arith
number-positive BadSheet e = omega arith
number-positive BadDirection e = omega arith

pub number_of-injective : (v w : Result (Unit {0}) Refusal) → number_of v ≡ number_of w → v ≡ w
unfolding number_of
number_of-injective (Ok u) (Ok v) e = refl
number_of-injective (Ok u) (Err s) e = absurd (number-positive s (sym e))
number_of-injective (Err r) (Ok v) e = absurd (number-positive r e)
number_of-injective (Err r) (Err s) e = ap Err (number-injective r s e)

-- a check that is refused has a number, and one that is not has none
pub refused-positive : (v : Result (Unit {0}) Refusal) → is_err v ≡ true → number_of v ≡ 0 → ⊥
unfolding number_of
refused-positive (Ok u) t z = true≢false (sym t)
refused-positive (Err r) t z = number-positive r z

pub passed_zero : (v : Result (Unit {0}) Refusal) → is_err v ≡ false → number_of v ≡ 0
unfolding number_of
passed_zero (Ok u) t = refl
passed_zero (Err r) t = absurd (true≢false t)

-- ---- the first that holds

pub number_of-refused : (r : Refusal) → number_of (Err r) ≡ number r
unfolding number_of
number_of-refused r = refl

-- a refusal's number is not that of none
pub number_of-positive : (r : Refusal) → number_of (Err r) ≡ 0 → ⊥
unfolding number_of
number_of-positive r = number-positive r

pub number_of-accepted : number_of (Ok tt) ≡ 0
unfolding number_of
number_of-accepted = refl

module _ (t : Test) (ts : List Test) where
  -- a test that holds is the first
  pub first-here : t.holds ≡ true → first_of (t ∷ ts) ≡ number t.refusal
  unfolding first_of
  first-here e = rw e

  -- a test that does not hold is passed
  pub first_next : t.holds ≡ false → first_of (t ∷ ts) ≡ first_of ts
  unfolding first_of
  first_next e = rw e

  -- where nothing is refused no test holds
  pub first_none : first_of (t ∷ ts) ≡ 0 → (t.holds ≡ false) × (first_of ts ≡ 0)
  unfolding first_of
  first_none e = go t.holds refl e
    where
      go : (b : Bool) → t.holds ≡ b → cond b (number t.refusal) (first_of ts) ≡ 0 → (t.holds ≡ false) × (first_of ts ≡ 0)
      go true h e = absurd (number-positive t.refusal e)
      go false h e = (h, e)

pub first-empty : first_of [] ≡ 0
unfolding first_of
first-empty = refl

-- no test holds
abbrev pub Passed : List Test → Type 0
Passed [] = Unit {0}
Passed (t ∷ ts) = (t.holds ≡ false) × Passed ts

-- nothing is refused exactly where no test holds
pub first-passed : (ts : List Test) → first_of ts ≡ 0 → Passed ts
first-passed [] e = tt
first-passed (t ∷ ts) e = let (h, rest) = first_none t ts e in (h, first-passed ts rest)

pub passed_first : (ts : List Test) → Passed ts → first_of ts ≡ 0
passed_first [] h = first-empty
passed_first (t ∷ ts) (h, rest) = first_next t ts h ∙ passed_first ts rest

-- the first refusal of two lists of tests: that of the first list, or of the second where the first refuses nothing
first_either : (b : Bool) (r : Refusal) {a : ℕ} (m n : ℕ) → a ≡ cond (eqb m 0) n m → cond b (number r) a ≡ cond (eqb (cond b (number r) m) 0) n (cond b (number r) m)
first_either true r m n e = rw (ne_eqb (number r) 0 (number-positive r))
first_either false r m n e = e

pub first-append : (ts us : List Test) → first_of (ts ++ us) ≡ cond (eqb (first_of ts) 0) (first_of us) (first_of ts)
unfolding first_of
first-append [] us = refl
first-append (t ∷ ts) us = first_either t.holds t.refusal (first_of ts) (first_of us) (first-append ts us)

-- no number of a refusal is over 11, nor is that of the first
pub number-most : (r : Refusal) → number r ≤ 11
unfolding number
number-most BadSize = omega arith
number-most BadWrap = omega arith
number-most BadCount = omega arith
number-most BadWeights = omega arith
number-most BadLength = omega arith
number-most BadList = omega arith
number-most Disagree = omega arith
number-most BadCell = omega arith
number-most BadPattern = omega arith
number-most BadSheet = omega arith
number-most BadDirection = omega arith

pub first-most : (ts : List Test) → first_of ts ≤ 11
unfolding first_of
first-most [] = omega arith
first-most (t ∷ ts) = go t.holds (first-most ts)
  where
    go : (b : Bool) → first_of ts ≤ 11 → cond b (number t.refusal) (first_of ts) ≤ 11
    go true h = number-most t.refusal
    go false h = h

-- ---- an answer or a refusal

module _ {A : Type 0} (ts : List Test) (x : A) where
  pub checked-accepted : first_of ts ≡ 0 → checked ts x ≡ answer x
  unfolding checked unless
  checked-accepted e = rw e

  pub checked_refused : (r : Refusal) → first_of ts ≡ number r → checked ts x ≡ refused (number r)
  unfolding checked unless
  checked_refused r e = rw e (go (number r) (number-positive r))
    where
      go : (n : ℕ) → (n ≡ 0 → ⊥) → unless n x ≡ refused n
      go zero h = absurd (h refl)
      go (suc n) h = refl
