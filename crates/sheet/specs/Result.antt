-- A run whose result is written: the result's bytes, and what a call comes to. Follows docs/RULES.md, "Sheet", "Run" and "Refusals".
-- Assumes nothing.
use Rattle.std.specs.Prelude.{Bool, ◌||◌, List, ◌++◌, ℕ, zero, suc, ◌+◌, ◌*◌, ◌≤◌, ltb, length}
use Rattle.records.specs.Numbers.{u16, u64s}
use Rattle.records.specs.Records.{record_of}
use Rattle.records.specs.Laying.{over}
use Rattle.refusals.specs.Refusals.{Test, first_of, Asked, refused, answer}
use Rattle.grid.specs.Grid.{Grid, cells}
use Rattle.forbids.specs.declared.Forbid.{Forbid}
use Rattle.course.specs.Run.{Given, Ended, ended, run_of}
use Rattle.course.specs.Called.{Memory, room_of, bad_lengths, End, Outcome, outcome, finished}
use Rattle.forbids.specs.Forbids.{forbids_of, records_in}
use Rattle.sheet.specs.Called.{sheet_tests}

-- ---- the bytes

-- kind 5: the end, the words used, and a word for each cell
unfoldable pub result_of : Ended → List ℕ
unfolding record_of u16 u64s
result_of e = record_of 5 (u16 e.end ++ (u16 e.used ++ u64s e.domains))

-- ---- refusals

-- no room for those: 10 bytes, and eight for each cell
unfoldable pub short : Grid → ℕ → Bool
short g room = ltb room (10 + 8 * cells g)

-- those of a run, where an output that is too short is among the lengths: 3, 1, 2, 5, 4, 6, 7, and the forbids record by record
unfoldable pub result_tests : Given → List ℕ → Memory → ℕ → List Test
unfolding sheet_tests bad_lengths short records_in
result_tests i ns m room =
    let misfit = bad_lengths i.table.count (cells i.grid) i.weights i.table.offsets i.noise (records_in ns) (room_of m) || short i.grid room in
    sheet_tests misfit i.table i.weights i.grid ns

-- ---- the outcome

-- what a call comes to: as a run, and what the output holds
pub record ResultOutcome : Type 0 where
  pub run : Outcome
  pub out : List ℕ

abbrev pub result_outcome : Outcome → List ℕ → ResultOutcome
result_outcome run out = record { run = run; out = out }

-- the run's outcome, and its result at the front of the output; refused, all is as it was
unfoldable pub result_at : ℕ → Given → List Forbid → List ℕ → Memory → List ℕ → ResultOutcome
unfolding finished run_of result_of over
result_at zero i fs words m out = result_outcome (finished (run_of i fs words) m) (over (result_of (run_of i fs words)) out)
result_at (suc n) i fs words m out = result_outcome (outcome (refused (suc n)) m) out

-- what a call of `run_result` comes to
unfoldable pub result_called : Given → List ℕ → List ℕ → Memory → List ℕ → ResultOutcome
unfolding result_at first_of result_tests forbids_of
result_called i ns words m out = result_at (first_of (result_tests i ns m (length out))) i (forbids_of ns) words m out

-- ---- what code needs to write an answer

-- its result at the front of the output; a refusal writes nothing
unfoldable pub answer_over : Asked End → List ℕ → List ℕ → List ℕ
unfolding result_of over
answer_over (answer e) domains out = over (result_of (ended e.end e.used domains)) out
answer_over (refused n) domains out = out

-- numbers that fit, and room
abbrev pub Writable : Asked End → ℕ → ℕ → Type 0
Writable (answer e) cells room = (e.used ≤ 1024) × (cells ≤ 1024) × (10 + 8 * cells ≤ room)
Writable (refused n) cells room = Unit {0}
