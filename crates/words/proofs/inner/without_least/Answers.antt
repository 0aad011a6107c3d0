-- `words::inner::without_least` meets its contract: a word shares with the number before it all but its least pattern.
-- Assumes nothing.
use Rattle.words.proofs.LeastLaws.{pred-without}
use Rattle.words.proofs.inner.without_least.Goals as goal

pub returns : goal.returns
returns c = pred-without 64 c.args.word c.requires c.ranges.word.fits
