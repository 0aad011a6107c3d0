-- `seed::fill` meets its contract. The invariant: the entries passed are the seed's words, and the counter is after them.
-- Assumes nothing.
use Rattle.std.proofs.Common.{arith}
use Rattle.seed.proofs.SeedLaws.{drawn_none, drawn_more, drawn-all}
use Rattle.seed.proofs.fill.Goals as goal

pub loop-word-init : goal.loop-word-init
loop-word-init c = drawn_none _ _

pub loop-word-preserved : goal.loop-word-preserved
loop-word-preserved c = drawn_more _ _ _ _ _ _ (omega (arith, c.loop-word-test.true, c.loop-word.auto.word-items)) c.step-now.ensures c.mix.ensures c.loop-word.invariant

pub returns : goal.returns
returns c =
    let loop = c.loop-word in
    drawn-all _ _ _ _ _ loop.auto.word-items (omega (arith, loop.auto.word-index-end)) (omega (arith, c.loop-word-test.false)) loop.invariant
