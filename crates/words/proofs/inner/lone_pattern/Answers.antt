-- `words::inner::lone_pattern` meets its contract: 1 shifted to place p.
-- Assumes nothing.
use Rattle.words.specs.Words.{alone}
use Rattle.words.proofs.BitLaws.{one_shl}
use Rattle.words.proofs.inner.lone_pattern.Goals as goal

pub returns : goal.returns
unfolding alone
returns c = one_shl 64 c.args.p c.requires
