-- `run::inner::begin_judged` meets its contract: the first refusal in order, with all as it was, or the start.
-- Assumes nothing.
use mathlib.Core.List.{[]}
use mathlib.Core.Path.{◌≡◌, refl, sym, ap, ◌∙◌}
use Prim.Native.Nat.{ℕ}
use native.Mathlib.Omega.{arith}
use Rattle.std.proofs.lemmas.Result.{err_from_is_err_and}
use Rattle.refusals.specs.Refusals.{first_of, number_of}
use Rattle.adjacency.specs.Tables.{table}
use Rattle.grid.specs.Grid.{grid}
use Rattle.course.specs.Run.{Given, given}
use Rattle.course.specs.Called.{Memory, memory, room_of, base_tests}
use Rattle.run.specs.Stages.{begun_as, refused_at}
use Rattle.refusals.proofs.RefusalLaws.{number_of-accepted, number_of-positive}
use Rattle.course.proofs.CalledLaws.{Granted}
use Rattle.run.proofs.StandingLaws.{base-granted, granted-opened, begin_refused, begin_bad, begin_standing}
use Rattle.run.proofs.inner.begin_judged.Goals as goal
use Rattle.run.proofs.inner.begin_judged.Goals.{Start, In_ok-check}

-- what the call is given, and the lent slices at entry
abbrev input : Start → Given
input s = given (table s.args.count s.args.offsets.now s.args.ids.now) s.args.weights.now (grid s.args.width s.args.height s.args.mode) s.args.noise.now

abbrev entry : Start → Memory
entry s = memory s.args.domains.now s.args.counts.now s.args.pending.now s.args.floats.now s.args.marks.now

-- no refusal comes before the forbids'
first : (c : In_ok-check) → first_of (base_tests (input (goal.at.In_ok-check c).Start) c.args.lent (room_of (entry (goal.at.In_ok-check c).Start))) ≡ 0
first c = sym c.in_ok-check.ensures ∙ number_of-accepted

granted : (c : In_ok-check) → Granted c.args.lent (input (goal.at.In_ok-check c).Start) [] (entry (goal.at.In_ok-check c).Start)
granted c = base-granted c.args.lent (input (goal.at.In_ok-check c).Start) (entry (goal.at.In_ok-check c).Start) (first c)

pub returns-in_err-check : goal.returns-in_err-check
unfolding begun_as
returns-in_err-check c =
    let (_, e, same) = err_from_is_err_and c.from_residual.result c.from_residual.ensures.1 in
    rw (e, same)
    (begin_refused (number_of c.args.bad) c.args.lent (input (goal.at.returns-in_err-check c).Start) (entry (goal.at.returns-in_err-check c).Start) _ c.in_err-check.ensures)

pub returns-in_err-bad : goal.returns-in_err-bad
unfolding begun_as number_of
returns-in_err-bad c =
    let (_, e, same) = err_from_is_err_and c.from_residual-in_err-bad.result c.from_residual-in_err-bad.ensures.1 in
    let told = ap number_of c.in_err-bad.was in
    rw (e, same)
    (ap (λ (n : ℕ). refused_at n (entry (goal.at.returns-in_err-bad c).Start)) (sym told)
    ∙ begin_bad (number_of c.args.bad) c.args.lent (input (goal.at.returns-in_err-bad c).Start) (entry (goal.at.returns-in_err-bad c).Start) (first (goal.at.returns-in_err-bad c).In_ok-check)
    (λ z. number_of-positive _ (sym told ∙ z)))

pub weighted_mask-requires : goal.weighted_mask-requires
weighted_mask-requires c =
    let G = granted (goal.at.weighted_mask-requires c).In_ok-check in
    omega (arith, G.lawful.weighed.one_each, G.lawful.accepted.few)

pub overflow_mul-height : goal.overflow_mul-height
overflow_mul-height c = omega (arith, (granted (goal.at.overflow_mul-height c).In_ok-check).sized.few)

pub begin_state-requires : goal.begin_state-requires
begin_state-requires c =
    let G = granted (goal.at.begin_state-requires c).In_ok-check in
    record { accepted = (G.lawful.accepted, G.lawful.weighed, c.weighted_mask.ensures); opened = granted-opened G }

pub returns : goal.returns
unfolding begun_as
returns c =
    begin_standing (number_of c.args.bad) c.args.lent (input (goal.at.returns c).Start) (entry (goal.at.returns c).Start) (first (goal.at.returns c).In_ok-check)
    (ap number_of c.in_ok-bad.was ∙ number_of-accepted) _
    (c.begin_state.ensures (grid c.args.width c.args.height c.args.mode) c.args.noise.now refl)
