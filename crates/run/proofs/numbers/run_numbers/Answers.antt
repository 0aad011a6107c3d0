-- `run::numbers::run_numbers` meets its contract: the stages, one after the other, come to what the call comes to.
-- Assumes nothing.
use mathlib.Core.List.{List}
use mathlib.Core.Path.{◌≡◌, ◌∙◌}
use Prim.Native.Nat.{ℕ}
use Rattle.std.specs.Prelude.{Ok}
use Rattle.std.proofs.lemmas.Result.{err_from_is_err_and}
use Rattle.refusals.specs.Refusals.{first_of, number_of}
use Rattle.adjacency.specs.Tables.{table}
use Rattle.grid.specs.Grid.{grid, cells}
use Rattle.course.specs.Run.{Given, given}
use Rattle.course.specs.Called.{Memory, memory, room_of}
use Rattle.forbids.specs.Forbids.{Placed, forbid_tests, forbids_of, records_in}
use Rattle.run.specs.Stages.{Standing, begun_as, beginning}
use Rattle.refusals.proofs.RefusalLaws.{number_of-accepted}
use Rattle.run.proofs.StandingLaws.{room_same}
use Rattle.run.proofs.StageLaws.{begun-placed, begun-standing, laid-standing, refused_called, stages_called}
use Rattle.run.proofs.numbers.run_numbers.Goals as goal
use Rattle.run.proofs.numbers.run_numbers.Goals.{Start, After-begin_judged, In_ok-begin_judged, After-lay_numbers-empty}

-- what the call is given, its forbids and how many they are, and the lent slices at entry
abbrev input : Start → Given
input s = given (table s.args.count s.args.offsets.now s.args.ids.now) s.args.weights.now (grid s.args.width s.args.height s.args.mode) s.args.noise.now

abbrev numbers : Start → List ℕ
numbers s = s.args.forbids.now

abbrev entry : Start → Memory
entry s = memory s.args.domains.now s.args.counts.now s.args.pending.now s.args.floats.now s.args.marks.now

-- the lent slices after the beginning
abbrev begun : After-begin_judged → Memory
begun b = let l = b.begin_judged.new in memory l.domains l.counts l.pending l.floats l.marks

-- what the beginning comes to, by the refusals of the forbids and how many they are
counted : (b : After-begin_judged) → beginning (number_of b.judge_all-bad.result) b.records_in-lent.result (input (goal.at.After-begin_judged b).Start) (entry (goal.at.After-begin_judged b).Start)
    ≡ beginning (first_of (forbid_tests (input (goal.at.After-begin_judged b).Start).table (input (goal.at.After-begin_judged b).Start).grid (forbids_of (numbers (goal.at.After-begin_judged b).Start)))) (records_in (numbers (goal.at.After-begin_judged b).Start)) (input (goal.at.After-begin_judged b).Start) (entry (goal.at.After-begin_judged b).Start)
counted b =
    let judged = b.judge_all-bad.ensures b.args.offsets.now b.args.ids.now in
    let many = b.records_in-lent.ensures in
    λ j. beginning (judged j) (many j) (input (goal.at.After-begin_judged b).Start) (entry (goal.at.After-begin_judged b).Start)

begun-room : (b : After-begin_judged) → room_of (begun b) ≡ room_of (entry (goal.at.After-begin_judged b).Start)
begun-room b = room_same (entry (goal.at.After-begin_judged b).Start) (b.begin_judged.auto.domains, (b.begin_judged.auto.counts, (b.begin_judged.auto.pending, (b.begin_judged.auto.floats, (b.begin_judged.auto.marks, tt {0})))))

began : (c : In_ok-begin_judged) → begun_as c.args.count (Ok tt) (begun (goal.at.In_ok-begin_judged c).After-begin_judged)
    ≡ beginning (first_of (forbid_tests (input (goal.at.In_ok-begin_judged c).Start).table (input (goal.at.In_ok-begin_judged c).Start).grid (forbids_of (numbers (goal.at.In_ok-begin_judged c).Start)))) (records_in (numbers (goal.at.In_ok-begin_judged c).Start)) (input (goal.at.In_ok-begin_judged c).Start) (entry (goal.at.In_ok-begin_judged c).Start)
began c = c.in_ok-begin_judged.ensures ∙ counted (goal.at.In_ok-begin_judged c).After-begin_judged

-- the lent slices after the forbids
abbrev laid : After-lay_numbers-empty → Memory
laid l = let k = l.lay_numbers-empty.new in memory k.domains k.counts k.pending k.floats k.marks

laid-room : (l : After-lay_numbers-empty) → room_of (laid l) ≡ room_of (begun (goal.at.After-lay_numbers-empty l).After-begin_judged)
laid-room l = room_same (begun (goal.at.After-lay_numbers-empty l).After-begin_judged) (l.lay_numbers-empty.auto.domains, (l.lay_numbers-empty.auto.counts, (l.lay_numbers-empty.auto.pending, (l.lay_numbers-empty.auto.floats, (l.lay_numbers-empty.auto.marks, tt {0})))))

pub returns-in_err-begin_judged : goal.returns-in_err-begin_judged
returns-in_err-begin_judged c =
    let s = (goal.at.returns-in_err-begin_judged c).Start in
    let (_, e, same) = err_from_is_err_and c.from_residual.result c.from_residual.ensures.1 in
    rw (e, same)
    (refused_called (records_in (numbers s)) (input s) (forbids_of (numbers s)) c.args.words.now (entry s) (begun (goal.at.returns-in_err-begin_judged c).After-begin_judged) _
    (c.in_err-begin_judged.ensures ∙ counted (goal.at.returns-in_err-begin_judged c).After-begin_judged))

-- the run stands, and every forbid is of the grid
ready : (c : In_ok-begin_judged) → let s = (goal.at.In_ok-begin_judged c).Start in
    Standing (input s) (begun (goal.at.In_ok-begin_judged c).After-begin_judged) × Placed c.args.count (cells (input s).grid) (forbids_of (numbers s))
ready c =
    let s = (goal.at.In_ok-begin_judged c).Start in
    let after = (goal.at.In_ok-begin_judged c).After-begin_judged in (
      begun-standing (input s) (records_in (numbers s)) (forbids_of (numbers s)) (entry s) (Ok tt) (begun after) (began c) number_of-accepted (begun-room after),
      begun-placed (input s) (records_in (numbers s)) (forbids_of (numbers s)) (entry s) (Ok tt) (begun after) (began c) number_of-accepted,
    )

pub lay_numbers-empty-requires : goal.lay_numbers-empty-requires
lay_numbers-empty-requires c = ready (goal.at.lay_numbers-empty-requires c).In_ok-begin_judged

pub conclude-requires : goal.conclude-requires
conclude-requires c =
    let s = (goal.at.conclude-requires c).Start in
    let l = (goal.at.conclude-requires c).After-lay_numbers-empty in
    let (stands, placed) = ready (goal.at.conclude-requires c).In_ok-begin_judged in
    laid-standing (input s) (forbids_of (numbers s)) (begun (goal.at.conclude-requires c).After-begin_judged) stands
    c.lay_numbers-empty.result (laid l) c.lay_numbers-empty.ensures placed (laid-room l)

pub returns : goal.returns
returns c =
    let s = (goal.at.returns c).Start in
    let l = (goal.at.returns c).After-lay_numbers-empty in
    c.conclude.ensures
    ∙ stages_called (records_in (numbers s)) (input s) (forbids_of (numbers s)) c.args.words.now (entry s) (begun (goal.at.returns c).After-begin_judged)
    c.lay_numbers-empty.result (laid l) (began (goal.at.returns c).In_ok-begin_judged) c.lay_numbers-empty.ensures
    (laid-room l ∙ begun-room (goal.at.returns c).After-begin_judged)
