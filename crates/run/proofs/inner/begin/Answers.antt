-- `run::inner::begin` meets its contract: the first refusal in order, of which the forbids' may have any number, with all as it was, or the start.
-- Assumes nothing.
use mathlib.Core.Path.{◌≡◌, sym, ap, ◌∙◌}
use Prim.Native.Nat.{ℕ}
use Rattle.std.proofs.lemmas.Result.{err_from_is_err_and}
use Rattle.refusals.specs.Refusals.{number_of}
use Rattle.adjacency.specs.Tables.{table}
use Rattle.grid.specs.Grid.{grid}
use Rattle.course.specs.Run.{Given, given}
use Rattle.course.specs.Called.{Memory, memory}
use Rattle.run.specs.Stages.{begun_as, begun_by, beginning}
use Rattle.refusals.proofs.RefusalLaws.{number_of-accepted}
use Rattle.run.proofs.StandingLaws.{begin_refused, begin_bad}
use Rattle.run.proofs.inner.begin.Goals as goal
use Rattle.run.proofs.inner.begin.Goals.{Start}

-- what the call is given, and the lent slices at entry
abbrev input : Start → Given
input s = given (table s.args.count s.args.offsets.now s.args.ids.now) s.args.weights.now (grid s.args.width s.args.height s.args.mode) s.args.noise.now

abbrev entry : Start → Memory
entry s = memory s.args.domains.now s.args.counts.now s.args.pending.now s.args.floats.now s.args.marks.now

-- without a refusal of the forbids the beginning is that with the number 0
without-bad : (s : Start) → s.args.bad ≡ 0 → beginning 0 s.args.lent (input s) (entry s) ≡ beginning s.args.bad s.args.lent (input s) (entry s)
without-bad s z = ap (λ (n : ℕ). beginning n s.args.lent (input s) (entry s)) (sym z)

pub returns-in_err-check : goal.returns-in_err-check
unfolding begun_by
returns-in_err-check c =
    let s = (goal.at.returns-in_err-check c).Start in
    let (_, e, same) = err_from_is_err_and c.from_residual.result c.from_residual.ensures.1 in
    rw (e, same) (begin_refused c.args.bad c.args.lent (input s) (entry s) _ c.in_err-check.ensures)

pub returns-then-bad-ne0 : goal.returns-then-bad-ne0
unfolding begun_by
returns-then-bad-ne0 c =
    let s = (goal.at.returns-then-bad-ne0 c).Start in
    begin_bad c.args.bad c.args.lent (input s) (entry s) (sym c.in_ok-check.ensures ∙ number_of-accepted) c.if-bad-ne0.true

pub returns-in_err-begin_judged : goal.returns-in_err-begin_judged
unfolding begun_as begun_by number_of
returns-in_err-begin_judged c =
    let s = (goal.at.returns-in_err-begin_judged c).Start in
    let (_, e, same) = err_from_is_err_and c.from_residual-in_err-begin_judged.result c.from_residual-in_err-begin_judged.ensures.1 in
    rw (e, same) (c.in_err-begin_judged.ensures ∙ without-bad s c.if-bad-ne0.false)

pub returns : goal.returns
unfolding begun_as begun_by number_of
returns c = c.in_ok-begin_judged.ensures ∙ without-bad (goal.at.returns c).Start c.if-bad-ne0.false
