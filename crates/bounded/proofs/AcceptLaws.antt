-- What a reader may rely on: no sheet that the library takes is refused or, up to 4,096 cells times patterns, called too large; what a case comes to is
-- what `sheet::run_result` says of it; and no second outcome fits the contracts of `measure` and `lay`.
-- Assumes nothing.
use mathlib.Core.Bool.{false}
use mathlib.Core.List.{List, [], ◌∷◌}
use mathlib.Core.Path.{◌≡◌, refl, sym, ap, ◌∙◌}
use Prim.Native.Nat.{ℕ, ◌+◌, ◌*◌, ◌≤◌}
use lib.ListN.{length}
use borrow.Author.Tests.{eq-eqb}
use Rattle.records.specs.Laying.{over}
use Rattle.refusals.specs.Refusals.{first_of}
use Rattle.grid.specs.Grid.{cells}
use Rattle.course.specs.Run.{given, run_of}
use Rattle.course.specs.Called.{Memory, Measured, finished}
use Rattle.forbids.specs.Forbids.{forbids_of}
use Rattle.layout.specs.Sheet.{Sheet}
use Rattle.layout.specs.Tables.{table_of}
use Rattle.layout.specs.Reading.{sheet_in}
use Rattle.layout.specs.Lending.{Lent}
use Rattle.sheet.specs.Called.{form_test, sheet_tests, read_misfit, read_tests, measured}
use Rattle.sheet.specs.Result.{result_of, result_outcome, result_at, result_called}
use Rattle.std.specs.Prelude.{Result, Ok, Err}
use Rattle.refusals.specs.declared.Refusal.{Refusal}
use Rattle.collapse.specs.Endings.{end_number}
use Rattle.collapse.proofs.EndingLaws.{end_number-injective}
use Rattle.bounded.specs.declared.inner.Ground.{Ground}
use Rattle.bounded.specs.declared.inner.Unfit.{Unfit}
use Rattle.bounded.specs.declared.inner.Laid.{Laid}
use Rattle.bounded.specs.Laid.{answer, sheet_refusal, taken_of, taken_told, measure_of, ran_of, laid_of, finish, laid_told, Outcome, outcome, laid_at}
use Rattle.refusals.proofs.RefusalLaws.{number-injective, first_none, passed_first, first-passed}
use Rattle.sheet.proofs.CalledLaws.{sheet-content}
use Rattle.sheet.proofs.RoundLaws.{sheet-passed}
use Rattle.bounded.proofs.TakenLaws.{taken-sheet, lay-sheet}
use Rattle.bounded.proofs.RunLaws.{result-ran}
use Rattle.bounded.proofs.KeptLaws.{within, taken_runnable}
use Rattle.bounded.specs.declared.inner.Unfit.TheVariants as unfit

-- ---- what the library takes

module _ (b : List ℕ) (l : Lent) (accepted : first_of (read_tests b l) ≡ 0) where
  -- what `sheet::read` takes has no refusal of its own
  pub read_taken : sheet_refusal b ≡ 0
  unfolding read_tests sheet_refusal
  read_taken =
      let s = sheet_in b in
      let misfit = read_misfit (measured s) (length l.weights) (length l.offsets) (length l.ids) (length l.forbids) in
      let (form, rest) = first_none (form_test b) (sheet_tests misfit (table_of s) s.weights s.grid s.forbids) accepted in
      let (scalars, lengths, content) = sheet-passed misfit (table_of s) s.weights s.grid s.forbids rest in
      let own : first_of (sheet_tests false (table_of s) s.weights s.grid s.forbids) ≡ 0 =
      sheet-content false (table_of s) s.weights s.grid s.forbids scalars refl ∙ content in
      passed_first (form_test b ∷ sheet_tests false (table_of s) s.weights s.grid s.forbids)
      (form, first-passed (sheet_tests false (table_of s) s.weights s.grid s.forbids) own)

  -- and is taken by the programs up to 4,096 cells times patterns
  pub accepted-taken : cells (sheet_in b).grid * length (sheet_in b).weights ≤ 4096 → taken_of b ≡ answer (sheet_in b)
  unfolding measured
  accepted-taken h = taken-sheet b read_taken (measured (sheet_in b)) refl h

-- ---- what a case comes to

-- of a sheet that is taken, with a noise word for each cell: the run's end, and `run_result` in any memory of the published lengths says the same
module _ (b noise words : List ℕ) (s : Sheet) (took : taken_of b ≡ answer s) (each : length noise ≡ cells s.grid) where
  pub case_ran : laid_of b noise words ≡ answer (run_of (given (table_of s) s.weights s.grid noise) (forbids_of s.forbids) words)
  unfolding ran_of
  case_ran = sym (lay-sheet b noise words [] [] s took) ∙ rw (eq-eqb (length noise) (cells s.grid) each)

  pub case_result : (m : Memory) → Measured (table_of s).count (cells s.grid) m → (out : List ℕ)
      → 10 + 8 * cells s.grid ≤ length out
      → result_called (given (table_of s) s.weights s.grid noise) s.forbids words m out
      ≡ result_outcome (finished (run_of (given (table_of s) s.weights s.grid noise) (forbids_of s.forbids) words) m) (over (result_of (run_of (given (table_of s) s.weights s.grid noise) (forbids_of s.forbids) words)) out)
  unfolding result_at
  case_result m M out room =
      result-ran (given (table_of s) s.weights s.grid noise) s.forbids (taken_runnable b s took) m M out room words ∙ rw (eq-eqb (length noise) (cells s.grid) each)

-- ---- no second outcome fits

taken_told-injective : (a b : Result Ground Unfit) → taken_told a ≡ taken_told b → a ≡ b
unfolding taken_told
taken_told-injective (Ok g) (Ok h) e = ap Ok (cc)
taken_told-injective (Ok g) (Err (unfit.Refused r)) e = cc
taken_told-injective (Ok g) (Err unfit.TooLarge) e = cc
taken_told-injective (Err (unfit.Refused r)) (Ok h) e = cc
taken_told-injective (Err (unfit.Refused r)) (Err (unfit.Refused s)) e = ap (λ (x : Refusal). Err (unfit.Refused x)) (number-injective r s (cc))
taken_told-injective (Err (unfit.Refused r)) (Err unfit.TooLarge) e = cc
taken_told-injective (Err unfit.TooLarge) (Ok h) e = cc
taken_told-injective (Err unfit.TooLarge) (Err (unfit.Refused s)) e = cc
taken_told-injective (Err unfit.TooLarge) (Err unfit.TooLarge) e = refl

pub measure-unique : (b : List ℕ) (x y : Result Ground Unfit) → taken_told x ≡ measure_of b → taken_told y ≡ measure_of b → x ≡ y
measure-unique b x y e f = taken_told-injective x y (e ∙ sym f)

laid_told-injective : (a b : Result Laid Unfit) → laid_told a ≡ laid_told b → a ≡ b
unfolding laid_told within
laid_told-injective (Ok k) (Ok l) e =
    let p = ap (within (finish (end_number k.end) k.used k.size)) e in
    let same : k.end ≡ l.end = end_number-injective k.end l.end (λ j. (p j).end) in
    λ j. Ok (record { end = same j; used = (p j).used; size = (p j).size })
laid_told-injective (Ok k) (Err (unfit.Refused s)) e = cc
laid_told-injective (Ok k) (Err unfit.TooLarge) e = cc
laid_told-injective (Err (unfit.Refused r)) (Ok l) e = cc
laid_told-injective (Err (unfit.Refused r)) (Err (unfit.Refused s)) e = ap (λ (x : Refusal). Err (unfit.Refused x)) (number-injective r s (cc))
laid_told-injective (Err (unfit.Refused r)) (Err unfit.TooLarge) e = cc
laid_told-injective (Err unfit.TooLarge) (Ok l) e = cc
laid_told-injective (Err unfit.TooLarge) (Err (unfit.Refused s)) e = cc
laid_told-injective (Err unfit.TooLarge) (Err unfit.TooLarge) e = refl

pub lay-unique : (b noise words domains out : List ℕ) (x y : Result Laid Unfit) (d₁ d₂ o₁ o₂ : List ℕ) → outcome (laid_told x) d₁ o₁ ≡ laid_at (laid_of b noise words) domains out
    → outcome (laid_told y) d₂ o₂ ≡ laid_at (laid_of b noise words) domains out → (x ≡ y) × (d₁ ≡ d₂) × (o₁ ≡ o₂)
lay-unique b noise words domains out x y d₁ d₂ o₁ o₂ p q =
    let e = p ∙ sym q in
    (laid_told-injective x y (ap (λ (o : Outcome). o.told) e), ap (λ (o : Outcome). o.domains) e, ap (λ (o : Outcome). o.out) e)
