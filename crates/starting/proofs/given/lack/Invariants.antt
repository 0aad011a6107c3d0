-- `starting::given::lack` meets its contract. The invariant: what the cells from here on lack, withdrawn now, is all that the domains lack, withdrawn at first.
-- Assumes nothing.
use Prim.Native.Nat.{◌-◌}
use lib.ListN.{length}
use Rattle.starting.proofs.GivenLaws.{Passing}
use Rattle.starting.proofs.given.lack.Given as goal

abbrev pub invariant-loop-cell : goal.invariant-loop-cell
invariant-loop-cell l = Passing l.count l.domains l.initial.counts l.initial.pending l.counts l.pending l.top l.cell

abbrev pub decreases-loop-cell : goal.decreases-loop-cell
decreases-loop-cell l = length l.domains - l.cell
