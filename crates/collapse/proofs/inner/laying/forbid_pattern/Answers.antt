-- `collapse::inner::laying::forbid_pattern` meets its contract: a pattern that is gone is let be.
-- Assumes nothing.
use mathlib.Core.List.{List}
use mathlib.Core.Path.{refl}
use Prim.Native.Nat.{ℕ}
use Rattle.consistency.specs.Worklist.{State}
use Rattle.notes.specs.Beside.{Beside, beside, lessened}
use Rattle.propagation.specs.Lent.{state_of}
use Rattle.collapse.proofs.StepLaws.{there, forbids-there, forbids-gone}
use Rattle.collapse.proofs.inner.laying.forbid_pattern.Goals as goal
use Rattle.collapse.proofs.inner.laying.forbid_pattern.Goals.{Start}

-- the state that it starts from, with any marks
abbrev entry : Start → List ℕ → State Beside
entry s marks = state_of s.args.count s.args.domains.now s.args.counts.now s.args.pending.now s.args.pile (beside s.args.floats.now marks)

pub remove-requires : goal.remove-requires
remove-requires c =
    let record { lent = lent; weighed = room; cell_in_bounds = (hc, hp) } = c.requires in
    record { lent = lent; weighed = room; cell_in_bounds = (hc, hp, there _ _ c.has_pattern.ensures c.if-has_pattern.true) }

pub shape_of-domains-then-has_pattern : goal.shape_of-domains-then-has_pattern
shape_of-domains-then-has_pattern c = c.remove.auto.domains

pub shape_of-counts-then-has_pattern : goal.shape_of-counts-then-has_pattern
shape_of-counts-then-has_pattern c = c.remove.auto.counts

pub shape_of-pending-then-has_pattern : goal.shape_of-pending-then-has_pattern
shape_of-pending-then-has_pattern c = c.remove.auto.pending

pub shape_of-floats-then-has_pattern : goal.shape_of-floats-then-has_pattern
shape_of-floats-then-has_pattern c = c.remove.auto.floats

pub returns-then-has_pattern : goal.returns-then-has_pattern
returns-then-has_pattern c =
    let a = c.args in
    let l = c.remove.new in
    λ marks. forbids-there a.pattern _ c.has_pattern.ensures a.count (lessened a.weights.now) (entry (goal.at.returns-then-has_pattern c).Start marks) a.cell refl c.if-has_pattern.true
    {s' = state_of a.count l.domains l.counts l.pending c.remove.result (beside l.floats marks)} (c.remove.ensures marks)

pub returns : goal.returns
returns c =
    let a = c.args in
    λ marks. forbids-gone a.pattern _ c.has_pattern.ensures a.count (lessened a.weights.now) (entry (goal.at.returns c).Start marks) a.cell refl c.if-has_pattern.false
