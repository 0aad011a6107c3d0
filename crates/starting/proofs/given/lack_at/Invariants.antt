-- `starting::given::lack_at` meets its contract. The invariant: what is left, withdrawn now, is all that the cell lacks, withdrawn at first.
-- Assumes nothing.
use Rattle.starting.proofs.GivenLaws.{Lacking}
use Rattle.starting.proofs.given.lack_at.Given as goal

abbrev pub invariant-loop-left : goal.invariant-loop-left
invariant-loop-left l = Lacking l.count l.cell l.word l.height l.initial.counts l.initial.pending l.counts l.pending l.top l.left

abbrev pub decreases-loop-left : goal.decreases-loop-left
decreases-loop-left l = l.left
