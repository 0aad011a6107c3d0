-- Laws of what a sheet and a case come to: each end of `measure` and `lay`, in the order of docs/RULES.md, "Programs".
-- Assumes nothing.
use mathlib.Core.Bool.{cond}
use mathlib.Core.List.{List}
use mathlib.Core.Path.{◌≡◌, refl, sym, ap, ◌∙◌}
use Prim.Native.Nat.{ℕ, zero, suc, ◌+◌, ◌*◌, ◌%◌, ◌≤◌, ◌<◌}
use native.Mathlib.Omega.{arith}
use lib.Dec.{ltb}
use lib.ListN.{length, take}
use borrow.Author.Tests.{lt-ltb, le-ltb, eq-eqb}
use Rattle.refusals.specs.declared.Refusal.{Refusal}
use Rattle.refusals.specs.Refusals.{number, first_of}
use Rattle.adjacency.specs.Tables.{table}
use Rattle.grid.specs.Grid.{grid, Sized}
use Rattle.course.specs.Run.{given}
use Rattle.forbids.specs.Forbids.{records_in}
use Rattle.layout.specs.Sheet.{Sheet}
use Rattle.layout.specs.Tables.{table_of}
use Rattle.layout.specs.Reading.{sheet_in}
use Rattle.std.specs.Prelude.{Ok, Err}
use Rattle.sheet.specs.declared.Measures.{Measures}
use Rattle.sheet.specs.Called.{measured}
use Rattle.bounded.specs.Laid.{too_large, refused, answer, onward, sheet_refusal, large, taken_at, taken_of, ground_of, measure_of, ran_of, laid_of, taken_told, laid_told, outcome, laid_at, Runnable}
use Rattle.refusals.proofs.RefusalLaws.{number-positive}
use Rattle.adjacency.proofs.AcceptedLaws.{counted}
use Rattle.sheet.proofs.MeasureLaws.{scalars-is, judged-is}
use Rattle.sheet.proofs.StorableLaws.{scalars-good}
use Rattle.bounded.proofs.ReadLaws.{Stored}
use Rattle.bounded.specs.declared.inner.Unfit.TheVariants as unfit

-- ---- the sheet

module _ (b : List ℕ) where
  pub taken_refused : (r : Refusal) → sheet_refusal b ≡ number r → taken_of b ≡ refused (number r)
  unfolding taken_of taken_at
  taken_refused r e = ap (λ (n : ℕ). taken_at n (sheet_in b)) e ∙ go (number r) (number-positive r)
    where
      go : (n : ℕ) → (n ≡ 0 → ⊥) → taken_at n (sheet_in b) ≡ refused n
      go zero z = absurd (z refl)
      go (suc n) z = refl

  -- where nothing is refused
  module _ (none : sheet_refusal b ≡ 0) (m : Measures) (e : m ≡ measured (sheet_in b)) where
    taken-size : taken_of b ≡ cond (ltb 4096 (m.height * m.width * m.count)) too_large (answer (sheet_in b))
    unfolding taken_of taken_at large measured
    taken-size =
        ap (λ (n : ℕ). taken_at n (sheet_in b)) none
        ∙ ap (λ (x : Measures). cond (ltb 4096 (x.height * x.width * x.count)) too_large (answer (sheet_in b))) (sym e)

    pub taken-large : 4096 < m.height * m.width * m.count → taken_of b ≡ too_large
    taken-large h = taken-size ∙ rw (lt-ltb 4096 (m.height * m.width * m.count) h)

    pub taken-sheet : m.height * m.width * m.count ≤ 4096 → taken_of b ≡ answer (sheet_in b)
    taken-sheet h = taken-size ∙ rw (le-ltb 4096 (m.height * m.width * m.count) h)

-- ---- each end of `measure`

module _ (b : List ℕ) where
  pub measure-large : taken_of b ≡ too_large → taken_told (Err unfit.TooLarge) ≡ measure_of b
  unfolding taken_told measure_of onward
  measure-large e = sym (rw e)

  pub measure-refused_by : (r : Refusal) → taken_of b ≡ refused (number r) → taken_told (Err (unfit.Refused r)) ≡ measure_of b
  unfolding taken_told measure_of onward
  measure-refused_by r e = sym (rw e)

  pub measure-sheet : (m : Measures) → taken_of b ≡ answer (sheet_in b) → m ≡ measured (sheet_in b)
      → taken_told (Ok (record { width = m.width; height = m.height; mode = m.mode; cells = m.height * m.width })) ≡ measure_of b
  unfolding taken_told measure_of onward ground_of measured
  measure-sheet m e f = ap (λ (x : Measures). answer (ground_of (grid x.width x.height x.mode))) f ∙ sym (rw e)

-- ---- each end of `lay`

module _ (b noise words domains out : List ℕ) where
  pub lay-large : taken_of b ≡ too_large → outcome (laid_told (Err unfit.TooLarge)) domains out ≡ laid_at (laid_of b noise words) domains out
  unfolding laid_told laid_of onward laid_at
  lay-large e = sym (rw e)

  pub lay-refused_by : (r : Refusal) → taken_of b ≡ refused (number r) → outcome (laid_told (Err (unfit.Refused r))) domains out ≡ laid_at (laid_of b noise words) domains out
  unfolding laid_told laid_of onward laid_at
  lay-refused_by r e = sym (rw e)

  pub lay-sheet : (s : Sheet) → taken_of b ≡ answer s → ran_of (given (table_of s) s.weights s.grid noise) s.forbids words ≡ laid_of b noise words
  unfolding laid_of onward
  lay-sheet s e = sym (rw e)

-- ---- what was read can be run

module _ (b : List ℕ) (m : Measures) (e : m ≡ measured (sheet_in b)) {weights offsets ids forbids : List ℕ} (S : Stored b m weights offsets ids forbids) where
  few-records : records_in (take (3 * m.forbids) forbids) ≤ 4096
  unfolding records_in
  few-records =
      let size : length (take (3 * m.forbids) forbids) ≡ 3 * m.forbids = ap length S.parts.forbids_in ∙ S.known.forbids_same in
      rw (eq-eqb (length (take (3 * m.forbids) forbids) % 3) 0 (omega arith)) (omega (arith, S.known.less))

  pub read_runnable : m.height * m.width * m.count ≤ 4096
      → Runnable (table m.count (take (4 * m.count + 1) offsets) (take m.ids ids)) (take m.count weights) (grid m.width m.height m.mode) (take (3 * m.forbids) forbids)
  read_runnable h =
      let P = S.parts in
      record {
        scalars = ap first_of (scalars-is (sheet_in b) m e) ∙ S.scalars;
        content = ap first_of (judged-is (sheet_in b) m e P.weights_in P.offsets_in P.ids_in P.forbids_in) ∙ S.content;
        one_each = ap length P.weights_in ∙ S.known.count_same;
        starts = ap length P.offsets_in ∙ S.known.offsets_same;
        few = few-records;
        small = h;
      }

  -- and its run is the sheet's
  pub read-ran : (noise words : List ℕ)
      → ran_of (given (table m.count (take (4 * m.count + 1) offsets) (take m.ids ids)) (take m.count weights) (grid m.width m.height m.mode) noise) (take (3 * m.forbids) forbids) words
      ≡ ran_of (given (table_of (sheet_in b)) (sheet_in b).weights (sheet_in b).grid noise) (sheet_in b).forbids words
  unfolding measured table_of
  read-ran noise words =
      let P = S.parts in
      λ j. ran_of (given (table (e j).count (P.offsets_in j) (P.ids_in j)) (P.weights_in j) (grid (e j).width (e j).height (e j).mode) noise) (P.forbids_in j) words

  -- its sides and its count are small
  pub read-sides : (m.count ≤ 64) × Sized (grid m.width m.height m.mode)
  read-sides =
      let (count, sized) = scalars-good m.count (grid m.width m.height m.mode) (ap first_of (scalars-is (sheet_in b) m e) ∙ S.scalars) in
      ((counted m.count count).1, sized)
