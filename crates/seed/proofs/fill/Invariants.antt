-- `seed::fill` meets its contract. The invariant: the entries passed are the seed's words, and the counter is after them.
-- Assumes nothing.
use Rattle.seed.proofs.SeedLaws.{Drawn}
use Rattle.seed.proofs.fill.Given as goal

abbrev pub invariant-loop-word : goal.invariant-loop-word
invariant-loop-word l = Drawn l.state l.word-index l.word-items l.now
