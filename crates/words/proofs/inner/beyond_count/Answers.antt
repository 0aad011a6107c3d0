-- `words::inner::beyond_count` meets its contract: no word has a pattern of 64 or more, and a shift shows those from a lesser count on.
-- Assumes nothing.
use mathlib.Core.Path.{◌≡◌, sym, ◌∙◌}
use native.Mathlib.Omega.{arith}
use borrow.Author.Tests.{le-ltb}
use Rattle.words.proofs.BitLaws.{false-beyond, beyond-shift}
use Rattle.words.proofs.inner.beyond_count.Goals as goal

pub returns-then-count-lt64 : goal.returns-then-count-lt64
returns-then-count-lt64 c = beyond-shift c.args.count c.args.word

pub returns-else-count-lt64 : goal.returns-else-count-lt64
returns-else-count-lt64 c =
    let a = c.args in
    let all : a.count ≡ 64 = omega arith in
    le-ltb a.count 64 c.if-count-lt64.false ∙ rw all (sym (false-beyond 64 a.word c.ranges.word.fits))
