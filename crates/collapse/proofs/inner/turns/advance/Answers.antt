-- `collapse::inner::turns::advance` meets its contract: where a turn goes on, there was a word to use.
-- Assumes nothing.
use native.Mathlib.Omega.{arith}
use lib.ListN.{length}
use Rattle.adjacency.specs.Tables.{table}
use Rattle.grid.specs.Grid.{grid}
use Rattle.consistency.specs.Worklist.{State}
use Rattle.propagation.specs.declared.inner.propagator.Pile.{Pile}
use Rattle.notes.specs.Beside.{Beside, beside_in}
use Rattle.propagation.specs.Lent.{state_of}
use Rattle.course.specs.Run.{Given, given}
use Rattle.collapse.specs.Steps.{idle}
use Rattle.collapse.proofs.TurnsLaws.{stop-over, stop-emptied, stop-going, word-left}
use Rattle.collapse.proofs.inner.turns.advance.Goals as goal
use Rattle.collapse.proofs.inner.turns.advance.Goals.{Start}

-- what the turn is given, and the state that it starts from
abbrev input : Start → Given
input s = given (table s.args.count s.args.offsets.now s.args.ids.now) s.args.weights.now (grid s.args.width s.args.height s.args.mode) s.args.noise.now

abbrev entry : Start → State Beside
entry s = state_of s.args.count s.args.domains.now s.args.counts.now s.args.pending.now idle (beside_in (length s.args.domains.now) s.args.floats.now s.args.marks.now)

pub turn-requires : goal.turn-requires
turn-requires c = record { lent = c.requires.lent; ground = c.requires.ground; weighed = c.requires.weighed; sightly = c.requires.sightly }

pub overflow_add-result : goal.overflow_add-result
overflow_add-result c =
    let l = c.turn.new in
    omega (arith, word-left (input (goal.at.overflow_add-result c).Start) c.args.words.now c.args.used (entry (goal.at.overflow_add-result c).Start) (λ (pile : Pile). state_of c.args.count l.domains l.counts l.pending pile (beside_in (length l.domains) l.floats l.marks)) c.in-Continue.is c.turn.ensures.0, c.well_formed.1.1.1.1.1.1.1.1.1.1.1.0)

pub shape_of-domains-then-pile : goal.shape_of-domains-then-pile
shape_of-domains-then-pile c = c.turn.auto.domains

pub shape_of-counts-then-pile : goal.shape_of-counts-then-pile
shape_of-counts-then-pile c = c.turn.auto.counts

pub shape_of-pending-then-pile : goal.shape_of-pending-then-pile
shape_of-pending-then-pile c = c.turn.auto.pending

pub shape_of-floats-then-pile : goal.shape_of-floats-then-pile
shape_of-floats-then-pile c = c.turn.auto.floats

pub shape_of-marks-then-pile : goal.shape_of-marks-then-pile
shape_of-marks-then-pile c = c.turn.auto.marks

pub returns-then-pile : goal.returns-then-pile
returns-then-pile c =
    (c.turn.result, stop-emptied _ c.in-Continue.is c.if-pile.true, c.turn.ensures.0, c.turn.ensures.1)

pub overflow_add-result-in-Continue : goal.overflow_add-result-in-Continue
overflow_add-result-in-Continue c =
    let l = c.turn.new in
    omega (arith, word-left (input (goal.at.overflow_add-result-in-Continue c).Start) c.args.words.now c.args.used (entry (goal.at.overflow_add-result-in-Continue c).Start) (λ (pile : Pile). state_of c.args.count l.domains l.counts l.pending pile (beside_in (length l.domains) l.floats l.marks)) c.in-Continue.is c.turn.ensures.0, c.well_formed.1.1.1.1.1.1.1.1.1.1.1.0)

pub shape_of-domains-in-Break : goal.shape_of-domains-in-Break
shape_of-domains-in-Break c = c.turn.auto.domains

pub shape_of-counts-in-Break : goal.shape_of-counts-in-Break
shape_of-counts-in-Break c = c.turn.auto.counts

pub shape_of-pending-in-Break : goal.shape_of-pending-in-Break
shape_of-pending-in-Break c = c.turn.auto.pending

pub shape_of-floats-in-Break : goal.shape_of-floats-in-Break
shape_of-floats-in-Break c = c.turn.auto.floats

pub shape_of-marks-in-Break : goal.shape_of-marks-in-Break
shape_of-marks-in-Break c = c.turn.auto.marks

pub returns-in-Break : goal.returns-in-Break
returns-in-Break c =
    (c.turn.result, stop-over _ c.in-Break.is, c.turn.ensures.0, c.turn.ensures.1)

pub shape_of-domains-else-pile : goal.shape_of-domains-else-pile
shape_of-domains-else-pile c = c.turn.auto.domains

pub shape_of-counts-else-pile : goal.shape_of-counts-else-pile
shape_of-counts-else-pile c = c.turn.auto.counts

pub shape_of-pending-else-pile : goal.shape_of-pending-else-pile
shape_of-pending-else-pile c = c.turn.auto.pending

pub shape_of-floats-else-pile : goal.shape_of-floats-else-pile
shape_of-floats-else-pile c = c.turn.auto.floats

pub shape_of-marks-else-pile : goal.shape_of-marks-else-pile
shape_of-marks-else-pile c = c.turn.auto.marks

pub returns-else-pile : goal.returns-else-pile
returns-else-pile c =
    (c.turn.result, stop-going _ c.in-Continue.is c.if-pile.false, c.turn.ensures.0, c.turn.ensures.1)
