-- `run::run` meets its contract: it begins, lays the forbids one by one until one empties a cell, and concludes.
-- Follows docs/RULES.md, "Run" and "Refusals". Assumes nothing.
use Rattle.std.proofs.Common.{◌≡◌, ap, ◌∙◌, ℕ, length}
use Rattle.std.proofs.lemmas.Result.{err_from_is_err_and}
use Rattle.refusals.specs.Refusals.{number_of}
use Rattle.adjacency.specs.Tables.{table}
use Rattle.grid.specs.Grid.{grid}
use Rattle.course.specs.Run.{Given, given}
use Rattle.course.specs.Called.{Memory, memory, room_of}
use Rattle.run.specs.Stages.{contradicted, standing, state_in, stage_of, beginning}
use Rattle.run.proofs.StandingLaws.{room_same}
use Rattle.run.proofs.StageLaws.{refused_called}
use Rattle.run.proofs.WalkLaws.{begun_stage, at_first, at_next, at-record, at_last, at-stop, run_is}
use Rattle.run.proofs.run.Goals as goal
use Rattle.run.proofs.run.Goals.{Start, After-begin_judged, After-lay_one}

-- what the call is given, and the lent slices at entry
abbrev input : Start → Given
input s = given (table s.args.count s.args.offsets.now s.args.ids.now) s.args.weights.now (grid s.args.width s.args.height s.args.mode) s.args.noise.now

abbrev entry : Start → Memory
entry s = memory s.args.domains.now s.args.counts.now s.args.pending.now s.args.floats.now s.args.marks.now

-- what the beginning comes to, by the refusals of the forbids
judged : (c : After-begin_judged) → let s = (goal.at.After-begin_judged c).Start in
    beginning (number_of c.check_all-bad.result) (length c.args.forbids.now) (input s) (entry s) ≡ begun_stage (input s) c.args.forbids.now (entry s)
judged c =
    let s = (goal.at.After-begin_judged c).Start in
    ap (λ (n : ℕ). beginning n (length c.args.forbids.now) (input s) (entry s)) (c.check_all-bad.ensures c.args.offsets.now c.args.ids.now)

pub returns-in_err-begin_judged : goal.returns-in_err-begin_judged
returns-in_err-begin_judged c =
    let s = (goal.at.returns-in_err-begin_judged c).Start in
    let l = c.begin_judged.new in
    let (_, e, same) = err_from_is_err_and c.from_residual.result c.from_residual.ensures.1 in
    rw (e, same)
    (refused_called (length c.args.forbids.now) (input s) c.args.forbids.now c.args.words.now (entry s) (memory l.domains l.counts l.pending l.floats l.marks) _
    (c.in_err-begin_judged.ensures ∙ judged (goal.at.returns-in_err-begin_judged c).After-begin_judged))

pub loop-i-init : goal.loop-i-init
loop-i-init c =
    let s = (goal.at.loop-i-init c).Start in
    let b = c.begin_judged in
    at_first (input s) c.args.forbids.now (entry s) _
    (room_same (entry s) (b.auto.domains, (b.auto.counts, (b.auto.pending, (b.auto.floats, (b.auto.marks, tt {0}))))))
    (c.in_ok-begin_judged.ensures ∙ judged (goal.at.loop-i-init c).After-begin_judged)

pub lay_one-requires : goal.lay_one-requires
lay_one-requires c =
    let s = (goal.at.lay_one-requires c).Start in
    let going = c.loop-i.invariant in
    let placed = at-record (input s) c.args.forbids.now (entry s) _ _ going c.loop-i-test.true in
    (going.standing, placed.0, placed.1)

-- the lent slices after a forbid are as long as at entry
laid-room : (c : After-lay_one) → let l = c.lay_one.new in
    room_of (memory l.domains l.counts l.pending l.floats l.marks) ≡ room_of (entry (goal.at.After-lay_one c).Start)
laid-room c =
    let l = c.loop-i in
    let b = c.lay_one in
    room_same (memory l.domains l.counts l.pending l.floats l.marks) (b.auto.domains, (b.auto.counts, (b.auto.pending, (b.auto.floats, (b.auto.marks, tt {0}))))) ∙ l.invariant.room

pub returns-then-lay_one : goal.returns-then-lay_one
unfolding stage_of
returns-then-lay_one c =
    let s = (goal.at.returns-then-lay_one c).Start in
    let fs = c.args.forbids.now in
    let l = c.lay_one.new in
    run_is (input s) fs (entry s) c.args.words.now contradicted (memory l.domains l.counts l.pending l.floats l.marks) _
    (laid-room (goal.at.returns-then-lay_one c).After-lay_one)
    (at-stop (input s) fs (entry s) _ _ c.loop-i.invariant c.loop-i-test.true _ (memory l.domains l.counts l.pending l.floats l.marks) c.lay_one.ensures c.if-lay_one.true)
    c.conclude.ensures

pub loop-i-preserved : goal.loop-i-preserved
loop-i-preserved c =
    let s = (goal.at.loop-i-preserved c).Start in
    let l = c.lay_one.new in
    at_next (input s) c.args.forbids.now (entry s) _ _ c.loop-i.invariant c.loop-i-test.true _ (memory l.domains l.counts l.pending l.floats l.marks) c.lay_one.ensures c.if-lay_one.false
    (laid-room (goal.at.loop-i-preserved c).After-lay_one)

pub conclude-requires-2 : goal.conclude-requires-2
conclude-requires-2 c = λ _. c.loop-i.invariant.standing

pub returns : goal.returns
unfolding stage_of
returns c =
    let s = (goal.at.returns c).Start in
    let l = c.loop-i in
    let m = memory l.domains l.counts l.pending l.floats l.marks in
    run_is (input s) c.args.forbids.now (entry s) c.args.words.now (standing (state_in c.args.count m)) m _ l.invariant.room
    (at_last (input s) c.args.forbids.now (entry s) _ _ l.invariant c.loop-i-test.false) c.conclude-2.ensures
