-- `seed::read` meets its contract. The invariant: the entries passed are the words of the file.
-- Assumes nothing.
use Rattle.std.proofs.Common.{arith}
use Rattle.seed.proofs.StripLaws.{read_none, read_more}
use Rattle.seed.proofs.read.Goals as goal

pub loop-i-init : goal.loop-i-init
loop-i-init c = read_none _ c.args.out.now

pub loop-i-preserved : goal.loop-i-preserved
loop-i-preserved c = read_more _ _ _ _ (omega (arith, c.loop-i-test.true, c.loop-i.auto.out)) c.word_at.ensures c.loop-i.invariant
