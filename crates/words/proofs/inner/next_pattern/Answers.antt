-- `words::inner::next_pattern` meets its contract: the trailing zeros are the least pattern.
-- Assumes nothing.
use native.Mathlib.Omega.{arith}
use Rattle.words.proofs.LeastLaws.{zeros-least, least-le}
use Rattle.words.proofs.inner.next_pattern.Goals as goal

pub overflow_cast-result : goal.overflow_cast-result
overflow_cast-result c = record { fits = omega (arith, zeros-least 64 c.args.word, least-le 64 c.args.word) }

pub returns : goal.returns
returns c = zeros-least 64 c.args.word
