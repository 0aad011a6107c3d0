-- `words::inner::count_ones` meets its contract: the count of ones is how many patterns are in the word.
-- Assumes nothing.
use native.Mathlib.Omega.{arith}
use Rattle.words.proofs.CountLaws.{ones-many, many-le}
use Rattle.words.proofs.inner.count_ones.Goals as goal

pub overflow_cast-result : goal.overflow_cast-result
overflow_cast-result c =
    let a = c.args in
    record { fits = omega (arith, ones-many 64 a.word c.ranges.word.fits, many-le 64 a.word) }

pub returns : goal.returns
returns c = ones-many 64 c.args.word c.ranges.word.fits
