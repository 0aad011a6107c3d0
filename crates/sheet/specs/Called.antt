-- A sheet that is asked for its sizes, read or written: refusals, answers, and what every lent slice holds afterwards.
-- Follows docs/RULES.md, "Sheet" and "Refusals". Assumes nothing.
use Rattle.std.specs.Prelude.{Bool, not, ◌||◌, List, [], ◌∷◌, ◌++◌, ℕ, zero, suc, ◌+◌, ◌*◌, ◌/◌, ltb, eqb, length, Result, Ok, Err}
use Rattle.records.specs.Laying.{over}
use Rattle.refusals.specs.declared.Refusal.{Refusal}
use Rattle.refusals.specs.declared.Refusal.TheVariants.{BadSheet, BadCount, BadSize, BadWrap, BadLength, BadWeights, BadList, Disagree}
use Rattle.refusals.specs.Refusals.{Test, ◌gives◌, first_of, Asked, refused, answer, number, checked}
use Rattle.adjacency.specs.Tables.{Table}
use Rattle.adjacency.specs.Checks.{bad_count, weights_misfit, offsets_misfit, over_weight, bad_list, disagree}
use Rattle.grid.specs.Grid.{Grid, bad_size, bad_wrap}
use Rattle.forbids.specs.Forbids.{forbid_tests, forbids_of, records_in}
use Rattle.sheet.specs.declared.Measures.{Measures}
use Rattle.layout.specs.Sheet.{Sheet, bytes_of}
use Rattle.layout.specs.Tables.{table_of, joined, sheet_for}
use Rattle.layout.specs.Lending.{Lent, filled}
use Rattle.layout.specs.Reading.{well_formed, sheet_in}

-- ---- refusals

-- 3, 1, 2
unfoldable pub scalar_tests : ℕ → Grid → List Test
unfolding bad_count bad_size bad_wrap
scalar_tests P g = (bad_count P gives BadCount) ∷ (bad_size g.width g.height gives BadSize) ∷ (bad_wrap g.mode gives BadWrap) ∷ []

-- 4, 6, 7, and the forbids record by record
unfoldable pub content_tests : Table → List ℕ → Grid → List ℕ → List Test
unfolding over_weight bad_list disagree forbid_tests forbids_of
content_tests t weights g forbids =
    (over_weight weights gives BadWeights) ∷ (bad_list t gives BadList) ∷ (disagree t gives Disagree) ∷ forbid_tests t g (forbids_of forbids)

-- 5, where the lent lengths misfit, stands between
unfoldable pub sheet_tests : Bool → Table → List ℕ → Grid → List ℕ → List Test
unfolding scalar_tests content_tests
sheet_tests misfit t weights g forbids = scalar_tests t.count g ++ ((misfit gives BadLength) ∷ content_tests t weights g forbids)

-- 10
abbrev pub form_test : List ℕ → Test
form_test b = not (well_formed b) gives BadSheet

-- ---- sizes

-- how much a sheet holds
unfoldable pub measured : Sheet → Measures
unfolding joined
measured s =
    record {
      count = length s.weights;
      ids = length (joined s.lists);
      width = s.grid.width;
      height = s.grid.height;
      mode = s.grid.mode;
      forbids = length s.forbids / 3;
    }

-- what an answer tells
unfoldable pub sizes_told : Result Measures Refusal → Asked Measures
unfolding number
sizes_told (Ok m) = answer m
sizes_told (Err r) = refused (number r)

-- what a call of `sizes` comes to
unfoldable pub sizes_asked : List ℕ → Asked Measures
unfolding checked well_formed measured sheet_in
sizes_asked b = checked (form_test b ∷ []) (measured (sheet_in b))

-- ---- read

-- slices of these lengths are not a weight for each pattern and 4P + 1 offsets, or have no room for the ids and the forbids
unfoldable pub read_misfit : Measures → ℕ → ℕ → ℕ → ℕ → Bool
read_misfit m weights offsets ids forbids =
    not (eqb weights m.count) || not (eqb offsets (4 * m.count + 1)) || ltb ids m.ids || ltb forbids (3 * m.forbids)

-- 10, and then the numbers that the sheet says
unfoldable pub read_tests : List ℕ → Lent → List Test
unfolding well_formed sheet_in sheet_tests measured read_misfit table_of
read_tests b m =
    let s = sheet_in b in
    let misfit = read_misfit (measured s) (length m.weights) (length m.offsets) (length m.ids) (length m.forbids) in
    form_test b ∷ sheet_tests misfit (table_of s) s.weights s.grid s.forbids

-- what a call comes to: what is told, and what the lent slices hold
pub record ReadOutcome : Type 0 where
  pub told : Asked Measures
  pub lent : Lent

abbrev pub read_outcome : Asked Measures → Lent → ReadOutcome
read_outcome told lent = record { told = told; lent = lent }

-- refused, all is as it was
unfoldable pub read_at : ℕ → Sheet → Lent → ReadOutcome
unfolding measured filled
read_at zero s m = read_outcome (answer (measured s)) (filled s m)
read_at (suc n) s m = read_outcome (refused (suc n)) m

-- what a call of `read` comes to
unfoldable pub read_called : List ℕ → Lent → ReadOutcome
unfolding read_at first_of read_tests sheet_in
read_called b m = read_at (first_of (read_tests b m)) (sheet_in b) m

-- ---- write

-- a weight for each pattern, 4P + 1 offsets, at most 4,096 forbids of three numbers, and room for 32 bytes, six for each pattern, one for
-- each id and six for each forbid
unfoldable pub write_misfit : Table → List ℕ → List ℕ → ℕ → Bool
unfolding weights_misfit offsets_misfit records_in
write_misfit t weights forbids room =
    weights_misfit t.count weights || offsets_misfit t.count t.offsets || ltb 4096 (records_in forbids)
    || ltb room (32 + 6 * t.count + length t.ids + 6 * records_in forbids)

-- the numbers that are lent
unfoldable pub write_tests : Table → List ℕ → Grid → List ℕ → ℕ → List Test
unfolding sheet_tests write_misfit
write_tests t weights g forbids room = sheet_tests (write_misfit t weights forbids room) t weights g forbids

-- what an answer tells: the number of bytes
unfoldable pub written_told : Result ℕ Refusal → Asked ℕ
unfolding number
written_told (Ok n) = answer n
written_told (Err r) = refused (number r)

-- what a call comes to: what is told, and what the output holds
pub record WriteOutcome : Type 0 where
  pub told : Asked ℕ
  pub out : List ℕ

abbrev pub write_outcome : Asked ℕ → List ℕ → WriteOutcome
write_outcome told out = record { told = told; out = out }

-- refused, the output is as it was
unfoldable pub write_at : ℕ → Sheet → List ℕ → WriteOutcome
unfolding bytes_of over
write_at zero s out = write_outcome (answer (length (bytes_of s))) (over (bytes_of s) out)
write_at (suc n) s out = write_outcome (refused (suc n)) out

-- what a call of `write` comes to
unfoldable pub write_called : Table → List ℕ → Grid → List ℕ → List ℕ → WriteOutcome
unfolding write_at first_of write_tests sheet_for
write_called t weights g forbids out = write_at (first_of (write_tests t weights g forbids (length out))) (sheet_for t weights g forbids) out
