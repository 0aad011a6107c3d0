-- What a case, a sheet's bytes with noise and words, comes to in a program: refused, too large, or the end of its run.
-- Follows docs/RULES.md, "Programs". Assumes nothing.
use Rattle.std.specs.Prelude.{Bool, false, cond, List, ◌∷◌, ◌≡◌, ℕ, zero, suc, ◌+◌, ◌*◌, ◌≤◌, ◌<◌, ltb, eqb, length, get_or, take, Result, Ok, Err}
use Rattle.records.specs.Laying.{over}
use Rattle.refusals.specs.Refusals.{number, first_of, Asked}
use Rattle.collapse.specs.Endings.{end_number}
use Rattle.adjacency.specs.Tables.{Table}
use Rattle.grid.specs.Grid.{Grid, cells}
use Rattle.course.specs.Run.{Given, given, Ended, run_of}
use Rattle.forbids.specs.Forbids.{forbids_of, records_in}
use Rattle.course.specs.Called.{End}
use Rattle.layout.specs.Sheet.{Sheet}
use Rattle.layout.specs.Tables.{table_of}
use Rattle.layout.specs.Reading.{well_formed, sheet_in}
use Rattle.sheet.specs.Called.{form_test, sheet_tests, scalar_tests, content_tests}
use Rattle.sheet.specs.Result.{result_of}
use Rattle.bounded.specs.declared.inner.Ground.{Ground}
use Rattle.bounded.specs.declared.inner.Unfit.{Unfit}
use Rattle.bounded.specs.declared.inner.Laid.{Laid}
use Rattle.bounded.specs.declared.inner.Unfit.TheVariants as unfit

-- what a program tells: that a sheet is larger than the program takes, the number of a refusal, or an answer
pub data Told (A : Type 0) : Type 0 where
  too_large : Told A
  refused : ℕ → Told A
  answer : A → Told A

-- what follows from an answer, where there is one
unfoldable pub onward : {A B : Type 0} → Told A → (A → Told B) → Told B
onward too_large f = too_large
onward (refused n) f = refused n
onward (answer x) f = f x

-- ---- the sheet

-- the number of a sheet's own first refusal, 0 for none: 10, 3, 1, 2, 4, 6, 7, and the forbids record by record
unfoldable pub sheet_refusal : List ℕ → ℕ
unfolding first_of sheet_tests table_of sheet_in
sheet_refusal b =
    let s = sheet_in b in
    first_of (form_test b ∷ sheet_tests false (table_of s) s.weights s.grid s.forbids)

-- over 4,096 cells times patterns
unfoldable pub large : Grid → ℕ → Bool
large g P = ltb 4096 (cells g * P)

-- of a sheet that nothing refuses, whether it is too large
unfoldable pub taken_at : ℕ → Sheet → Told Sheet
unfolding large
taken_at zero s = cond (large s.grid (length s.weights)) too_large (answer s)
taken_at (suc n) s = refused (suc n)

-- what a sheet's bytes are to a program: its refusals, and then its size
unfoldable pub taken_of : List ℕ → Told Sheet
unfolding taken_at sheet_refusal sheet_in
taken_of b = taken_at (sheet_refusal b) (sheet_in b)

-- the grid of a sheet, and how many cells it has
unfoldable pub ground_of : Grid → Ground
ground_of g = record { width = g.width; height = g.height; mode = g.mode; cells = cells g }

-- what an answer of `measure` tells
unfoldable pub taken_told : Result Ground Unfit → Told Ground
unfolding number
taken_told (Ok g) = answer g
taken_told (Err (unfit.Refused r)) = refused (number r)
taken_told (Err unfit.TooLarge) = too_large

-- what a call of `measure` comes to
unfoldable pub measure_of : List ℕ → Told Ground
unfolding onward taken_of ground_of
measure_of b = onward (taken_of b) (λ (s : Sheet). answer (ground_of s.grid))

-- ---- the case

-- the run; noise that is not a word for each cell is 5
unfoldable pub ran_of : Given → List ℕ → List ℕ → Told Ended
unfolding run_of forbids_of
ran_of i ns words = cond (eqb (length i.noise) (cells i.grid)) (answer (run_of i (forbids_of ns) words)) (refused 5)

-- what a case comes to: the sheet's part before the noise
unfoldable pub laid_of : List ℕ → List ℕ → List ℕ → Told Ended
unfolding onward taken_of ran_of table_of
laid_of b noise words = onward (taken_of b) (λ (s : Sheet). ran_of (given (table_of s) s.weights s.grid noise) s.forbids words)

-- an end, the words used, and how long the result's record is
pub record Finish : Type 0 where
  pub end : ℕ
  pub used : ℕ
  pub size : ℕ

abbrev pub finish : ℕ → ℕ → ℕ → Finish
finish end used size = record { end = end; used = used; size = size }

-- what an answer of `lay` tells
unfoldable pub laid_told : Result Laid Unfit → Told Finish
unfolding number
laid_told (Ok l) = answer (finish (end_number l.end) l.used l.size)
laid_told (Err (unfit.Refused r)) = refused (number r)
laid_told (Err unfit.TooLarge) = too_large

-- what a run's answer on n cells tells
unfoldable pub run_told : Asked End → ℕ → Told Finish
run_told (Asked.refused k) n = refused k
run_told (Asked.answer e) n = answer (finish e.end e.used (10 + 8 * n))

-- what a call of `lay` comes to: what is told, and what the lent slices hold
pub record Outcome : Type 0 where
  pub told : Told Finish
  pub domains : List ℕ
  pub out : List ℕ

abbrev pub outcome : Told Finish → List ℕ → List ℕ → Outcome
outcome told domains out = record { told = told; domains = domains; out = out }

-- the run's domains and its result at the front, and what stood past them; where nothing was run, all is as it was
unfoldable pub laid_at : Told Ended → List ℕ → List ℕ → Outcome
unfolding result_of over
laid_at (answer e) domains out = outcome (answer (finish e.end e.used (length (result_of e)))) (over e.domains domains) (over (result_of e) out)
laid_at (refused n) domains out = outcome (refused n) domains out
laid_at too_large domains out = outcome too_large domains out

-- ---- what code needs

-- what a program holds of a sheet's bytes: the first 90,273, and whether all of them are a sheet
pub record Held (b kept : List ℕ) (judged : Bool) : Type 0 where
  pub bytes : (k : ℕ) → get_or b k 0 < 256
  pub front : kept ≡ take 90273 b
  pub formed : judged ≡ well_formed b

-- there are bytes of which this is held
abbrev pub Front : List ℕ → Bool → Type 0
Front kept judged = (b : List ℕ) × Held b kept judged

-- nothing is refused but perhaps the noise, and it is not too large
pub record Runnable (t : Table) (weights : List ℕ) (g : Grid) (forbids : List ℕ) : Type 0 where
  pub scalars : first_of (scalar_tests t.count g) ≡ 0
  pub content : first_of (content_tests t weights g forbids) ≡ 0
  pub one_each : length weights ≡ t.count
  pub starts : length t.offsets ≡ 4 * t.count + 1
  pub few : records_in forbids ≤ 4096
  pub small : cells g * t.count ≤ 4096

-- room for 64 patterns, as many ids as a sheet that is held has bytes, and 4,096 forbids
pub record Reads (weights offsets ids forbids : List ℕ) : Type 0 where
  pub weights_long : length weights ≡ 64
  pub offsets_long : length offsets ≡ 257
  pub ids_long : length ids ≡ 90272
  pub forbids_long : length forbids ≡ 12288
