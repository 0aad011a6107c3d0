-- `collapse::inner::turns::collapse` meets its contract: with the marks of blocks forgotten every block is looked at, and the run stands where it stood; with nothing
-- observed it is over.
-- Assumes nothing.
use mathlib.Core.List.{List}
use mathlib.Core.Path.{◌≡◌, refl, ap, ◌∙◌}
use Prim.Native.Nat.{ℕ, ◌+◌, ◌*◌}
use native.Mathlib.Omega.{arith}
use lib.ListN.{length, take}
use Rattle.adjacency.specs.Tables.{table}
use Rattle.grid.specs.Grid.{grid, cells}
use Rattle.consistency.specs.Worklist.{State}
use Rattle.notes.specs.Beside.{Beside, beside, beside_in}
use Rattle.propagation.specs.Lent.{state_of}
use Rattle.course.specs.Run.{Given, given, collapse}
use Rattle.collapse.specs.Steps.{idle}
use Rattle.collapse.proofs.StepLaws.{turn-still}
use Rattle.collapse.proofs.TurnsLaws.{laid-numbers, first-over}
use Rattle.collapse.proofs.WatchLaws.{observed-cut, observed-found, forgotten-cut, forgotten-found, forgotten-observed, laid-at, roomy-at}
use Rattle.collapse.proofs.inner.turns.collapse.Goals as goal
use Rattle.collapse.proofs.inner.turns.collapse.Goals.{Start, After-observe}

-- what the run is given, and the state that it starts from
abbrev input : Start → Given
input s = given (table s.args.count s.args.offsets.now s.args.ids.now) s.args.weights.now (grid s.args.width s.args.height s.args.mode) s.args.noise.now

abbrev entry : Start → State Beside
entry s = state_of s.args.count s.args.domains.now s.args.counts.now s.args.pending.now idle (beside_in (length s.args.domains.now) s.args.floats.now s.args.marks.now)

pub forget-requires : goal.forget-requires
forget-requires c = omega (arith, c.requires.marks_len)

pub observe-requires : goal.observe-requires
observe-requires c =
    let a = c.args in
    let record { lent = _; ground = _; weighed = (_, roomy, _); marks_len = long; laid = laid } = c.requires in
    let forgot = c.forget in record { lengths = record { noises = roomy.heard; words = refl; values = roomy.valued; marked = forgot.auto.marks ∙ long }; numbers = laid-numbers (length a.domains.now) laid; fresh = forgotten-found a.noise.now a.weighted a.domains.now a.floats.now a.marks.now long forgot.ensures }

-- after the look: as many marks as before, and those of cells as they were
looked-length : (c : After-observe) → length c.observe.new.marks ≡ length c.args.marks.now
looked-length c = c.observe.auto.marks ∙ c.forget.auto.marks

looked-cut : (c : After-observe) → take (2 * length c.args.domains.now) c.observe.new.marks ≡ take (2 * length c.args.domains.now) c.args.marks.now
looked-cut c =
    let a = c.args in
    let long = c.requires.marks_len in
    observed-cut a.noise.now a.weighted a.domains.now a.floats.now _ (c.forget.auto.marks ∙ long) c.observe.ensures.1
    ∙ forgotten-cut a.domains.now a.marks.now long c.forget.ensures

pub take_turns-requires : goal.take_turns-requires
take_turns-requires c =
    let a = c.args in
    let record { lent = lent; ground = ground; weighed = (weighed, roomy, masked); marks_len = long; laid = laid } = c.requires in record { lent = lent; ground = ground; weighed = (weighed, roomy-at (looked-length (goal.at.take_turns-requires c).After-observe) roomy, masked); marks_len = (looked-length (goal.at.take_turns-requires c).After-observe ∙ long, observed-found a.noise.now a.weighted a.domains.now a.floats.now _ (c.forget.auto.marks ∙ long) c.observe.ensures.1); laid = laid-at a.count a.domains.now a.counts.now a.pending.now a.floats.now a.marks.now _ laid (looked-cut (goal.at.take_turns-requires c).After-observe) }

pub shape_of-marks-in-None : goal.shape_of-marks-in-None
shape_of-marks-in-None c = looked-length (goal.at.shape_of-marks-in-None c).After-observe

pub returns-in-None : goal.returns-in-None
returns-in-None c =
    let a = c.args in
    let record { lent = _; ground = ground; weighed = (_, _, masked); marks_len = long; laid = _ } = c.requires in
    first-over (input (goal.at.returns-in-None c).Start) a.words.now (entry (goal.at.returns-in-None c).Start) _ refl
    (turn-still (input (goal.at.returns-in-None c).Start) a.words.now 0 (entry (goal.at.returns-in-None c).Start)
    (forgotten-observed a.weighted a.noise.now a.domains.now a.floats.now a.marks.now long c.forget.ensures c.observe.ensures.0)
    ground.all masked refl c.in-None.is c.still_end.ensures)

pub shape_of-domains-in-Some : goal.shape_of-domains-in-Some
shape_of-domains-in-Some c = c.take_turns.auto.domains

pub shape_of-counts : goal.shape_of-counts
shape_of-counts c = c.take_turns.auto.counts

pub shape_of-pending : goal.shape_of-pending
shape_of-pending c = c.take_turns.auto.pending

pub shape_of-floats-in-Some : goal.shape_of-floats-in-Some
shape_of-floats-in-Some c = c.take_turns.auto.floats

pub shape_of-marks-in-Some : goal.shape_of-marks-in-Some
shape_of-marks-in-Some c = c.take_turns.auto.marks ∙ looked-length (goal.at.shape_of-marks-in-Some c).After-observe

pub returns-in-Some : goal.returns-in-Some
returns-in-Some c =
    let a = c.args in
    c.take_turns.ensures
    ∙ ap (λ (m : List ℕ). collapse (input (goal.at.returns-in-Some c).Start) a.words.now (cells (grid a.width a.height a.mode) + 1) 0
    (state_of a.count a.domains.now a.counts.now a.pending.now idle (beside a.floats.now m)))
    (looked-cut (goal.at.returns-in-Some c).After-observe)
