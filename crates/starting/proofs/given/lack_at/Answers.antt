-- `starting::given::lack_at` meets its contract. The invariant: what is left, withdrawn now, is all that the cell lacks, withdrawn at first.
-- Assumes nothing.
use mathlib.Core.Path.{◌≡◌}
use Prim.Native.Nat.{◌<◌}
use native.Mathlib.Omega.{arith}
use lib.ListN.{length}
use Rattle.words.specs.Words.{bit}
use Rattle.words.proofs.ChangeLaws.{without-less}
use Rattle.starting.proofs.GivenLaws.{spacious_long, lacking_start, lacking_next, lacking_low, lacking_turn, lacking_end}
use Rattle.starting.proofs.given.lack_at.Goals as goal
use Rattle.starting.proofs.given.lack_at.Goals.{After-next_pattern-pattern}

pub lacked_patterns-left-requires : goal.lacked_patterns-left-requires
lacked_patterns-left-requires c =
    (c.requires.0.some, c.requires.0.patterns, c.requires.1)

pub loop-left-init : goal.loop-left-init
loop-left-init c = rw c.lacked_patterns-left.ensures (lacking_start c.requires.1)

-- the next pattern that is left, and room for it on the pile
next : (c : After-next_pattern-pattern) →
    let p = c.next_pattern-pattern.result in
    let at = c.loop-left in
    (p < c.args.count) × (bit at.left p ≡ 1) × (at.top < length at.pending)
next c =
    let L = c.loop-left.invariant in
    let (below, here) = lacking_next L c.requires.0.patterns c.loop-left-test.true in
    rw c.next_pattern-pattern.ensures (below, here, lacking_low L c.requires.0.patterns c.loop-left-test.true c.requires.2)

pub withdraw-requires : goal.withdraw-requires
withdraw-requires c =
    (spacious_long c.requires.0 c.loop-left.invariant.counts-long, (next (goal.at.withdraw-requires c).After-next_pattern-pattern).0, (next (goal.at.withdraw-requires c).After-next_pattern-pattern).2)

pub overflow_add-top : goal.overflow_add-top
overflow_add-top c = omega (arith, next (goal.at.overflow_add-top c).After-next_pattern-pattern)

pub without_pattern-left-requires : goal.without_pattern-left-requires
without_pattern-left-requires c = omega (arith, next (goal.at.without_pattern-left-requires c).After-next_pattern-pattern)

pub loop-left-smaller : goal.loop-left-smaller
loop-left-smaller c = rw c.without_pattern-left.ensures (without-less _ _ (next (goal.at.loop-left-smaller c).After-next_pattern-pattern).1)

pub loop-left-preserved : goal.loop-left-preserved
loop-left-preserved c =
    rw (c.without_pattern-left.ensures, c.next_pattern-pattern.ensures)
    (lacking_turn c.loop-left.invariant c.requires.0.patterns c.loop-left-test.true (rw c.next_pattern-pattern.ensures at c.withdraw.ensures)
    c.withdraw.auto.counts c.withdraw.auto.pending)

pub shape_of-counts : goal.shape_of-counts
shape_of-counts c = c.loop-left.invariant.counts-long

pub shape_of-pending : goal.shape_of-pending
shape_of-pending c = c.loop-left.invariant.pending-long

pub returns : goal.returns
returns c = lacking_end c.loop-left.invariant c.loop-left-test.false
