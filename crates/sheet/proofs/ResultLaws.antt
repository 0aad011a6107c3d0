-- Laws of a run whose result is written: its refusals are a run's with one length more, and what is written is the run's own outcome.
-- Assumes nothing.
use mathlib.Core.Bool.{Bool, true, false, ◌||◌}
use mathlib.Core.List.{List, ◌++◌}
use mathlib.Core.Path.{◌≡◌, refl, sym, ap, ◌∙◌}
use Prim.Native.Nat.{ℕ, zero, suc, ◌+◌, ◌*◌, ◌≤◌, ◌<◌}
use native.Mathlib.Omega.{arith}
use lib.ListN.{length, length-append}
use borrow.Author.Tests.{lt-ltb, le-ltb, ltb-false}
use Rattle.records.specs.Numbers.{u16, u64s}
use Rattle.records.specs.Records.{head_of, record_of}
use Rattle.records.specs.Laying.{over, Pen, pen, laid}
use Rattle.refusals.specs.declared.Refusal.{Refusal}
use Rattle.refusals.specs.declared.Refusal.TheVariants.{BadLength}
use Rattle.refusals.specs.Refusals.{first_of, number, number_of, Asked, refused, answer}
use Rattle.grid.specs.Grid.{Grid, cells}
use Rattle.forbids.specs.declared.Forbid.{Forbid}
use Rattle.std.specs.Prelude.{Result, Err}
use Rattle.collapse.specs.declared.Stop.{Stop}
use Rattle.course.specs.Run.{Given, ended, run_of}
use Rattle.course.specs.Called.{Memory, room_of, bad_lengths, base_tests, tests_of, End, Outcome, outcome, finished, outcome_at, called_of, called_numbers}
use Rattle.forbids.specs.Forbids.{forbids_of, records_in}
use Rattle.run.specs.Answers.{answer_told}
use Rattle.sheet.specs.Called.{scalar_tests, content_tests, sheet_tests}
use Rattle.sheet.specs.Result.{result_of, short, result_tests, ResultOutcome, result_outcome, result_at, result_called, answer_over, Writable}
use Rattle.records.proofs.NumberLaws.{length-u16, length-u64s}
use Rattle.records.proofs.RecordLaws.{length-record_of, laid-record}
use Rattle.records.proofs.LayingLaws.{laid_then, laid-over}
use Rattle.refusals.proofs.RefusalLaws.{number-positive, number_of-positive, number_of-refused}
use Rattle.course.proofs.CalledLaws.{called-granted, called-accepted, refused_same}
use Rattle.run.proofs.AnswerLaws.{answer_told-injective}
use Rattle.course.proofs.CourseLaws.{run_final, used-choices}
use Rattle.sheet.proofs.CalledLaws.{sheet-scalar, sheet-length}

-- ---- the test of the room

pub room-missing : (g : Grid) (room : ℕ) → room < 10 + 8 * cells g → short g room ≡ true
unfolding short
room-missing g room h = lt-ltb room (10 + 8 * cells g) h

pub room-there : (g : Grid) (room : ℕ) → 10 + 8 * cells g ≤ room → short g room ≡ false
unfolding short
room-there g room h = le-ltb room (10 + 8 * cells g) h

or-true : (b : Bool) → (b || true) ≡ true
or-true true = refl
or-true false = refl

or-false : (b : Bool) → (b || false) ≡ b
or-false true = refl
or-false false = refl

-- ---- what a run's outcome says of its result

-- whichever refusal comes first, what a run tells and leaves determines the result
outcome-over : (n : ℕ) (i : Given) (fs : List Forbid) (words : List ℕ) (m : Memory) (out : List ℕ)
    → result_at n i fs words m out ≡ result_outcome (outcome_at n i fs words m) (answer_over (outcome_at n i fs words m).told (outcome_at n i fs words m).memory.domains out)
unfolding result_at outcome_at finished answer_over
outcome-over zero i fs words m out = refl
outcome-over (suc n) i fs words m out = refl

-- the words used, and the number of the refusal
words_in : Asked End → ℕ
words_in (answer e) = e.used
words_in (refused n) = 0

refusal_in : Asked End → ℕ
refusal_in (answer e) = 0
refusal_in (refused n) = n

module _ (i : Given) (ns words : List ℕ) (m : Memory) (out : List ℕ) where
  abbrev lengths : Bool
  lengths = bad_lengths i.table.count (cells i.grid) i.weights i.table.offsets i.noise (records_in ns) (room_of m)

  result-refused : (r : Refusal) → first_of (result_tests i ns m (length out)) ≡ number r
      → result_outcome (outcome (answer_told (Err r)) m) out ≡ result_called i ns words m out
  unfolding answer_told result_called result_at
  result-refused r e = sym (rw e (go (number r) (number-positive r)))
    where
      go : (n : ℕ) → (n ≡ 0 → ⊥) → result_at n i (forbids_of ns) words m out ≡ result_outcome (outcome (refused n) m) out
      go zero z = absurd (z refl)
      go (suc n) z = refl

  -- at each end of `run_result`
  pub result-scalar : (r : Refusal) → number_of (Err r) ≡ first_of (scalar_tests i.table.count i.grid)
      → result_outcome (outcome (answer_told (Err r)) m) out ≡ result_called i ns words m out
  unfolding result_tests
  result-scalar r e =
      result-refused r (sheet-scalar (lengths || short i.grid (length out)) i.table i.weights i.grid ns e (number_of-positive r) ∙ number_of-refused r)

  pub result-short : first_of (scalar_tests i.table.count i.grid) ≡ 0 → short i.grid (length out) ≡ true
      → result_outcome (outcome (answer_told (Err BadLength)) m) out ≡ result_called i ns words m out
  unfolding result_tests number
  result-short e h =
      result-refused BadLength (sheet-length (lengths || short i.grid (length out)) i.table i.weights i.grid ns e (ap (λ (b : Bool). lengths || b) h ∙ or-true lengths))

  module _ (there : short i.grid (length out) ≡ false) where
    -- with room for the result the refusals are a run's
    result-first : first_of (result_tests i ns m (length out)) ≡ first_of (tests_of (records_in ns) i (forbids_of ns) m)
    unfolding result_tests tests_of sheet_tests scalar_tests content_tests base_tests
    result-first = ap (λ (b : Bool). first_of (sheet_tests b i.table i.weights i.grid ns)) (ap (λ (b : Bool). lengths || b) there ∙ or-false lengths)

    pub result-done : {told : Asked End} {m' : Memory} {out' : List ℕ} → outcome told m' ≡ called_numbers i ns words m → out' ≡ answer_over told m'.domains out
        → result_outcome (outcome told m') out' ≡ result_called i ns words m out
    unfolding called_of result_called
    result-done e f =
        let first = first_of (tests_of (records_in ns) i (forbids_of ns) m) in
        (λ j. result_outcome (e j) ((f ∙ ap (λ (o : Outcome). answer_over o.told o.memory.domains out) e) j))
        ∙ sym (outcome-over first i (forbids_of ns) words m out)
        ∙ ap (λ (n : ℕ). result_at n i (forbids_of ns) words m out) (sym result-first)

    -- an answer of a run can be written
    pub result_writable : (told : Asked End) {m' : Memory} → outcome told m' ≡ called_numbers i ns words m → length m'.domains ≡ length m.domains
        → Writable told (length m'.domains) (length out)
    unfolding short finished words_in refusal_in
    result_writable (refused k) e same = tt
    result_writable (answer told) {m'} e same = go (first_of (tests_of (records_in ns) i (forbids_of ns) m)) refl
      where
        go : (n : ℕ) → first_of (tests_of (records_in ns) i (forbids_of ns) m) ≡ n → (told.used ≤ 1024) × (length m'.domains ≤ 1024) × (10 + 8 * length m'.domains ≤ length out)
        go zero q =
            let G = called-granted (records_in ns) i (forbids_of ns) m q in
            let L = G.lawful in
            let used : told.used ≡ (run_of i (forbids_of ns) words).used = ap (λ (o : Outcome). words_in o.told) (e ∙ called-accepted (records_in ns) i (forbids_of ns) words m q) in
            let most = (used-choices i (forbids_of ns) L words (run_final i (forbids_of ns) L words)).1 in
            let enough : 10 + 8 * cells i.grid ≤ length out = ltb-false (length out) (10 + 8 * cells i.grid) there in
            (omega (arith, G.sized.few, most), omega (arith, G.sized.few, G.memory.domains), omega (arith, G.memory.domains))
        go (suc n) q = absurd (omega (arith, ap (λ (o : Outcome). refusal_in o.told) (e ∙ refused_same (records_in ns) i (forbids_of ns) words m n q)))

-- ---- writing

-- the parts of a result, written from the front
module _ (end used : ℕ) (domains out : List ℕ) {s₁ s₂ s₃ s₄ : List ℕ} {p₁ p₂ p₃ p₄ : ℕ} where
  pub result-laid : 10 + 8 * length domains ≤ length out → pen s₁ p₁ ≡ laid (head_of 5 (4 + 8 * length domains)) (pen out 0) → pen s₂ p₂ ≡ laid (u16 end) (pen s₁ p₁)
      → pen s₃ p₃ ≡ laid (u16 used) (pen s₂ p₂) → pen s₄ p₄ ≡ laid (u64s domains) (pen s₃ p₃) → s₄ ≡ over (result_of (ended end used domains)) out
  unfolding result_of
  result-laid room e₁ e₂ e₃ e₄ =
      let payload : List ℕ = u16 end ++ (u16 used ++ u64s domains) in
      let size : 4 + 8 * length domains ≡ length payload =
      omega (arith, length-append (u16 end) (u16 used ++ u64s domains), length-append (u16 used) (u64s domains), length-u16 end, length-u16 used, length-u64s domains) in
      let rest = laid_then (u16 end) (u16 used ++ u64s domains) s₁ p₁ e₂ (laid_then (u16 used) (u64s domains) s₂ p₂ e₃ e₄) in
      let whole = laid-record 5 (u16 end ++ (u16 used ++ u64s domains)) (4 + 8 * length domains) out 0 size e₁ rest in
      ap (λ (p : Pen). p.slice) (whole ∙ laid-over (record_of 5 (u16 end ++ (u16 used ++ u64s domains))) out (omega (arith, length-record_of 5 (u16 end ++ (u16 used ++ u64s domains)))))

-- ---- no second outcome fits

-- two outcomes that meet the contract are the same
pub result-unique : (i : Given) (ns words : List ℕ) (m : Memory) (out : List ℕ) (a b : Result Stop Refusal) (m₁ m₂ : Memory) (out₁ out₂ : List ℕ)
    → result_outcome (outcome (answer_told a) m₁) out₁ ≡ result_called i ns words m out
    → result_outcome (outcome (answer_told b) m₂) out₂ ≡ result_called i ns words m out → (a ≡ b) × (m₁ ≡ m₂) × (out₁ ≡ out₂)
result-unique i ns words m out a b m₁ m₂ out₁ out₂ p q =
    let e = p ∙ sym q in
    (answer_told-injective a b (ap (λ (o : ResultOutcome). o.run.told) e), ap (λ (o : ResultOutcome). o.run.memory) e, ap (λ (o : ResultOutcome). o.out) e)
