-- `collapse::inner::turns::turn` meets its contract: the cell that is observed is one of the grid and weighs something, so a word chooses there.
-- Assumes nothing.
use mathlib.Core.List.{List}
use mathlib.Core.Path.{◌≡◌, refl, ap, ◌∙◌}
use Prim.Native.Nat.{ℕ, ◌*◌}
use native.Mathlib.Omega.{arith}
use lib.ListN.{length, take}
use Rattle.adjacency.specs.Tables.{table}
use Rattle.grid.specs.Grid.{grid}
use Rattle.consistency.specs.Worklist.{State}
use Rattle.notes.specs.Beside.{Beside, beside, beside_in}
use Rattle.propagation.specs.Lent.{state_of}
use Rattle.choice.specs.Observer.{notes_in, observe}
use Rattle.course.specs.Run.{Given, given}
use Rattle.collapse.specs.Steps.{idle}
use Rattle.collapse.proofs.StepLaws.{alongside-at, cell-inside, cell-weight, turn-still, turn-paused, turn-from}
use Rattle.collapse.proofs.WatchLaws.{observed-cut, observed-found, chosen-found, observed_of}
use Rattle.collapse.proofs.inner.turns.turn.Goals as goal
use Rattle.collapse.proofs.inner.turns.turn.Goals.{Start, After-observe}

-- what the turn is given, and the state that it starts from
abbrev input : Start → Given
input s = given (table s.args.count s.args.offsets.now s.args.ids.now) s.args.weights.now (grid s.args.width s.args.height s.args.mode) s.args.noise.now

abbrev entry : Start → State Beside
entry s = state_of s.args.count s.args.domains.now s.args.counts.now s.args.pending.now idle (beside_in (length s.args.domains.now) s.args.floats.now s.args.marks.now)

pub observe-requires : goal.observe-requires
observe-requires c =
    let record { lent = _; ground = _; weighed = (_, roomy, _, _); sightly = sight } = c.requires in
    record { lengths = record { noises = roomy.heard; words = refl; values = roomy.valued; marked = sight.marked }; numbers = sight.numbers; fresh = sight.found }

-- what was observed, of the marks of cells alone; `saw` is after the observation
observed : (c : After-observe) → c.observe.result ≡ observe (notes_in (length c.args.domains.now) c.args.noise.now c.args.domains.now c.args.floats.now (take (2 * length c.args.domains.now) c.args.marks.now) c.args.weighted)
observed c = let a = c.args in observed_of (length a.domains.now) a.weighted a.noise.now a.domains.now a.floats.now a.marks.now c.observe.ensures.0

pub offset_bounds-words-used : goal.offset_bounds-words-used
offset_bounds-words-used c = omega (arith, c.if-used-words.true, c.well_formed.1.1.1.1.1.1.1.1.1.1.1.0)

pub choose_at-requires : goal.choose_at-requires
choose_at-requires c =
    let record { lent = lent; ground = ground; weighed = (weighed, roomy, masked, lookups); sightly = _ } = c.requires in
    let is = c.in-Some.is in record { lent = lent; ground = ground; alongside = (alongside-at {marks' = c.observe.new.marks} {floats' = c.args.floats.now} refl refl c.observe.auto.marks (record { weighed = weighed; marked = roomy.marked; roomy = λ p h. roomy }), masked, lookups); cell_in_bounds = (cell-inside (input (goal.at.choose_at-requires c).Start) c.args.words.now c.args.used (entry (goal.at.choose_at-requires c).Start) (observed (goal.at.choose_at-requires c).After-observe) ground.all masked is, cell-weight (input (goal.at.choose_at-requires c).Start) c.args.words.now c.args.used (entry (goal.at.choose_at-requires c).Start) (observed (goal.at.choose_at-requires c).After-observe) ground.all masked is) }

pub shape_of-domains-then-used-words : goal.shape_of-domains-then-used-words
shape_of-domains-then-used-words c = c.choose_at.auto.domains

pub shape_of-counts-then-used-words : goal.shape_of-counts-then-used-words
shape_of-counts-then-used-words c = c.choose_at.auto.counts

pub shape_of-pending-then-used-words : goal.shape_of-pending-then-used-words
shape_of-pending-then-used-words c = c.choose_at.auto.pending

pub shape_of-floats-then-used-words : goal.shape_of-floats-then-used-words
shape_of-floats-then-used-words c = c.choose_at.auto.floats

pub shape_of-marks-then-used-words : goal.shape_of-marks-then-used-words
shape_of-marks-then-used-words c = c.choose_at.auto.marks ∙ c.observe.auto.marks

pub returns-then-used-words : goal.returns-then-used-words
returns-then-used-words c =
    let called = c.choose_at in
    let a = c.args in
    let l = called.new in
    let sight = c.requires.sightly in (
      turn-from (input (goal.at.returns-then-used-words c).Start) a.words.now a.used (entry (goal.at.returns-then-used-words c).Start) (observed (goal.at.returns-then-used-words c).After-observe) c.requires.ground.all c.requires.weighed.2 refl
          (ap (λ (m : List ℕ). state_of a.count a.domains.now a.counts.now a.pending.now idle (beside a.floats.now m))
          (observed-cut a.noise.now a.weighted a.domains.now a.floats.now a.marks.now sight.marked c.observe.ensures.1))
          {s' = state_of a.count l.domains l.counts l.pending called.result (beside_in (length l.domains) l.floats l.marks)} c.in-Some.is c.if-used-words.true called.ensures.0,
      chosen-found a.noise.now a.weighted a.domains.now a.floats.now a.marks.now sight.marked c.observe.ensures.1 l.domains l.floats l.marks
          called.auto.domains called.ensures.1,
    )

pub shape_of-marks-in-None : goal.shape_of-marks-in-None
shape_of-marks-in-None c = c.observe.auto.marks

pub returns-in-None : goal.returns-in-None
returns-in-None c = (
  turn-still (input (goal.at.returns-in-None c).Start) c.args.words.now c.args.used (entry (goal.at.returns-in-None c).Start) (observed (goal.at.returns-in-None c).After-observe) c.requires.ground.all c.requires.weighed.2 refl c.in-None.is c.still_end.ensures,
  observed-found c.args.noise.now c.args.weighted c.args.domains.now c.args.floats.now c.args.marks.now c.requires.sightly.marked c.observe.ensures.1,
)

pub shape_of-marks-else-used-words : goal.shape_of-marks-else-used-words
shape_of-marks-else-used-words c = c.observe.auto.marks

pub returns-else-used-words : goal.returns-else-used-words
returns-else-used-words c = (
  turn-paused (input (goal.at.returns-else-used-words c).Start) c.args.words.now c.args.used (entry (goal.at.returns-else-used-words c).Start) (observed (goal.at.returns-else-used-words c).After-observe) c.requires.ground.all c.requires.weighed.2 refl c.in-Some.is c.if-used-words.false,
  observed-found c.args.noise.now c.args.weighted c.args.domains.now c.args.floats.now c.args.marks.now c.requires.sightly.marked c.observe.ensures.1,
)
