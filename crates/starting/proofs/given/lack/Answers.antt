-- `starting::given::lack` meets its contract. The invariant: what the cells from here on lack, withdrawn now, is all that the domains lack, withdrawn at first.
-- Assumes nothing.
use Rattle.starting.proofs.GivenLaws.{passing-start, passing-asks, passing-turn, passing-end}
use Rattle.starting.proofs.given.lack.Goals as goal

pub loop-cell-init : goal.loop-cell-init
loop-cell-init c = passing-start

pub lack_at-top-requires : goal.lack_at-top-requires
lack_at-top-requires c =
    passing-asks c.loop-cell.invariant c.requires c.loop-cell-test.true

pub loop-cell-preserved : goal.loop-cell-preserved
loop-cell-preserved c =
    passing-turn c.loop-cell.invariant c.loop-cell-test.true c.lack_at-top.ensures c.lack_at-top.auto.counts c.lack_at-top.auto.pending

pub shape_of-counts : goal.shape_of-counts
shape_of-counts c = c.loop-cell.invariant.counts-long

pub shape_of-pending : goal.shape_of-pending
shape_of-pending c = c.loop-cell.invariant.pending-long

pub returns : goal.returns
returns c = passing-end c.loop-cell.invariant c.loop-cell-test.false
