-- A call whose forbids are lent as numbers comes to what it comes to with the forbids themselves, or is refused.
-- Follows docs/RULES.md, "Refusals".
use mathlib.Core.List.{List}
use mathlib.Core.Path.{◌≡◌, refl, ap, ◌∙◌}
use Prim.Native.Nat.{ℕ, zero, suc, ◌%◌}
use native.Mathlib.Omega.{arith}
use lib.ListN.{length}
use Rattle.refusals.specs.Refusals.{first_of, refused}
use Rattle.forbids.specs.declared.Forbid.{Forbid}
use Rattle.forbids.specs.Forbids.{forbids_of, records_in}
use Rattle.course.specs.Run.{Given}
use Rattle.course.specs.Called.{Memory, tests_of, outcome, called_of, called, called_numbers}
use Rattle.forbids.proofs.NumberLaws.{records-three, records_misfit, numbers_of, forbids-numbers, numbers-three}
use Rattle.course.proofs.CalledLaws.{called-granted, refused_same}

module _ (i : Given) (words : List ℕ) (m : Memory) where
  -- three for each: it comes to what a call with the forbids comes to
  pub numbers-called : (ns : List ℕ) → length ns % 3 ≡ 0 → called_numbers i ns words m ≡ called i (forbids_of ns) words m
  numbers-called ns e = ap (λ (lent : ℕ). called_of lent i (forbids_of ns) words m) (records-three ns e)

  -- not three for each: it is refused
  pub numbers-refused : (ns : List ℕ) → (length ns % 3 ≡ 0 → ⊥) → (n : ℕ) × (called_numbers i ns words m ≡ outcome (refused (suc n)) m)
  numbers-refused ns e = go (first_of (tests_of (records_in ns) i (forbids_of ns) m)) refl
    where
      go : (n : ℕ) → first_of (tests_of (records_in ns) i (forbids_of ns) m) ≡ n → (n : ℕ) × (called_numbers i ns words m ≡ outcome (refused (suc n)) m)
      go zero z = absurd (omega (arith, (called-granted (records_in ns) i (forbids_of ns) m z).few, records_misfit ns e))
      go (suc n) z = (n, refused_same (records_in ns) i (forbids_of ns) words m n z)

-- forbids that are lent as their numbers come to the same
pub numbers_same : (i : Given) (fs : List Forbid) (words : List ℕ) (m : Memory) → called_numbers i (numbers_of fs) words m ≡ called i fs words m
numbers_same i fs words m =
    numbers-called i words m (numbers_of fs) (omega (arith, numbers-three fs)) ∙ ap (λ (gs : List Forbid). called i gs words m) (forbids-numbers fs)
