-- `seed::mix` meets its contract: the steps of the mixer, one after the other.
-- Assumes nothing.
use Rattle.std.proofs.Common.{refl, ◌∙◌}
use Rattle.seed.proofs.SeedLaws.{mixed-steps}
use Rattle.seed.proofs.mix.Goals as goal

pub returns : goal.returns
returns c = c.folded.ensures ∙ mixed-steps _ _ _ _ _ c.folded-once.ensures refl c.folded-twice.ensures refl
