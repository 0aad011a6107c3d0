-- `collapse::inner::turns::choose_at` meets its contract: the pattern that is chosen is one of the table, and the others are laid aside.
-- Assumes nothing.
use native.Mathlib.Omega.{arith}
use lib.ListN.{length, get_or}
use Rattle.adjacency.specs.Tables.{table}
use Rattle.adjacency.specs.Weights.{Bounded}
use Rattle.grid.specs.Grid.{grid}
use Rattle.consistency.specs.Worklist.{State}
use Rattle.notes.specs.Beside.{Beside, beside_in}
use Rattle.propagation.specs.Lent.{state_of}
use Rattle.course.specs.Run.{Given, given}
use Rattle.collapse.specs.Steps.{idle}
use Rattle.adjacency.proofs.WeightLaws.{weighed-bounded}
use Rattle.collapse.proofs.StepLaws.{taken-below, drawn-below, chosen_is}
use Rattle.collapse.proofs.inner.turns.choose_at.Goals as goal
use Rattle.collapse.proofs.inner.turns.choose_at.Goals.{Start}

-- what the choice is given, and the state that it starts from
abbrev input : Start → Given
input s = given (table s.args.count s.args.offsets.now s.args.ids.now) s.args.weights.now (grid s.args.width s.args.height s.args.mode) s.args.noise.now

abbrev entry : Start → State Beside
entry s = state_of s.args.count s.args.domains.now s.args.counts.now s.args.pending.now idle (beside_in (length s.args.domains.now) s.args.floats.now s.args.marks.now)

bounded : (s : Start) → Bounded s.args.weights.now (get_or s.args.domains.now s.args.cell 0)
bounded s = weighed-bounded s.requires.alongside.0.weighed s.requires.lent.patterns (s.requires.lent.safe.fit.words _)

pub weight_sum-sum-requires : goal.weight_sum-sum-requires
weight_sum-sum-requires c = bounded (goal.at.weight_sum-sum-requires c).Start

pub choose-pattern-requires : goal.choose-pattern-requires
choose-pattern-requires c = (bounded (goal.at.choose-pattern-requires c).Start, drawn-below _ c.weight_sum-sum.ensures c.requires.cell_in_bounds.1)

pub lay-requires : goal.lay-requires
lay-requires c =
    let record { lent = lent; ground = ground; alongside = room; cell_in_bounds = (hc, _) } = c.requires in
    record { lent = lent; ground = ground; alongside = room; cell_in_bounds = (hc, taken-below lent _ _ _ c.choose-pattern.ensures) }

pub shape_of-domains : goal.shape_of-domains
shape_of-domains c = c.lay.auto.domains

pub shape_of-counts : goal.shape_of-counts
shape_of-counts c = c.lay.auto.counts

pub shape_of-pending : goal.shape_of-pending
shape_of-pending c = c.lay.auto.pending

pub shape_of-floats : goal.shape_of-floats
shape_of-floats c = c.lay.auto.floats

pub shape_of-marks : goal.shape_of-marks
shape_of-marks c = c.lay.auto.marks

pub returns : goal.returns
returns c =
    let a = c.args in
    let l = c.lay.new in
    (chosen_is (input (goal.at.returns c).Start) a.cell a.word (entry (goal.at.returns c).Start) {s' = state_of a.count l.domains l.counts l.pending c.lay.result (beside_in (length l.domains) l.floats l.marks)} {k = 1} c.weight_sum-sum.ensures c.choose-pattern.ensures (λ z. absurd (omega arith)) c.lay.ensures.0, c.lay.ensures.1)
