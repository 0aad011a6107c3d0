-- `seed::fill_both` meets its contract: the words follow from the state that the noise leaves.
-- Assumes nothing.
use Rattle.seed.proofs.SeedLaws.{both-drawn}
use Rattle.seed.proofs.fill_both.Goals as goal

pub returns : goal.returns
returns c = both-drawn _ _ _ _ _ _ _ c.fill-state.ensures c.fill.ensures
