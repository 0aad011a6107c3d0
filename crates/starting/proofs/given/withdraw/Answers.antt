-- `starting::given::withdraw` meets its contract: a pattern's slot has its place among the counts, and fits a pending removal.
-- Assumes nothing.
use Rattle.starting.proofs.GivenLaws.{slot-narrow, withdraw-is}
use Rattle.starting.proofs.given.withdraw.Goals as goal

pub narrow-requires : goal.narrow-requires
narrow-requires c =
    slot-narrow c.requires.0 c.requires.1

pub returns : goal.returns
returns c =
    withdraw-is _ _ _ _ c.args.counts.now c.args.pending.now c.requires.1 c.requires.2 c.clear_all_directions.ensures c.narrow.ensures
