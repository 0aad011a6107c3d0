-- `collapse::inner::laying::strike` meets its contract: the pattern of the forbid goes, or all others.
-- Assumes nothing.
use mathlib.Core.List.{List}
use Prim.Native.Nat.{ℕ}
use Rattle.consistency.specs.Worklist.{State}
use Rattle.notes.specs.Beside.{Beside, beside, lessened}
use Rattle.propagation.specs.Lent.{state_of}
use Rattle.collapse.proofs.StepLaws.{asked-one, asked-others}
use Rattle.collapse.proofs.inner.laying.strike.Goals as goal
use Rattle.collapse.proofs.inner.laying.strike.Goals.{Start}

-- the state that it starts from, with any marks
abbrev entry : Start → List ℕ → State Beside
entry s marks = state_of s.args.count s.args.domains.now s.args.counts.now s.args.pending.now s.args.pile (beside s.args.floats.now marks)

pub forbid_pattern-requires : goal.forbid_pattern-requires
forbid_pattern-requires c = record { lent = c.requires.lent; weighed = c.requires.weighed; cell_in_bounds = c.requires.cell_in_bounds }

pub shape_of-domains-then-keep-eq0 : goal.shape_of-domains-then-keep-eq0
shape_of-domains-then-keep-eq0 c = c.forbid_pattern.auto.domains

pub shape_of-counts-then-keep-eq0 : goal.shape_of-counts-then-keep-eq0
shape_of-counts-then-keep-eq0 c = c.forbid_pattern.auto.counts

pub shape_of-pending-then-keep-eq0 : goal.shape_of-pending-then-keep-eq0
shape_of-pending-then-keep-eq0 c = c.forbid_pattern.auto.pending

pub shape_of-floats-then-keep-eq0 : goal.shape_of-floats-then-keep-eq0
shape_of-floats-then-keep-eq0 c = c.forbid_pattern.auto.floats

pub returns-then-keep-eq0 : goal.returns-then-keep-eq0
returns-then-keep-eq0 c =
    let a = c.args in
    let l = c.forbid_pattern.new in
    λ marks. asked-one a.count a.cell a.pattern (lessened a.weights.now) (entry (goal.at.returns-then-keep-eq0 c).Start marks) {s' = state_of a.count l.domains l.counts l.pending c.forbid_pattern.result (beside l.floats marks)}
    c.if-keep-eq0.true (c.forbid_pattern.ensures marks)

pub remove_others-requires : goal.remove_others-requires
remove_others-requires c = record { lent = c.requires.lent; weighed = c.requires.weighed; cell_in_bounds = c.requires.cell_in_bounds }

pub shape_of-domains : goal.shape_of-domains
shape_of-domains c = c.remove_others.auto.domains

pub shape_of-counts : goal.shape_of-counts
shape_of-counts c = c.remove_others.auto.counts

pub shape_of-pending : goal.shape_of-pending
shape_of-pending c = c.remove_others.auto.pending

pub shape_of-floats : goal.shape_of-floats
shape_of-floats c = c.remove_others.auto.floats

pub returns : goal.returns
returns c =
    let a = c.args in
    let l = c.remove_others.new in
    λ marks. asked-others a.count a.cell a.pattern (lessened a.weights.now) (entry (goal.at.returns c).Start marks) {s' = state_of a.count l.domains l.counts l.pending c.remove_others.result (beside l.floats marks)}
    c.if-keep-eq0.false (c.remove_others.ensures marks)
