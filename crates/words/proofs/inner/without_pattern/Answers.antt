-- `words::inner::without_pattern` meets its contract: where bit p is set, 2 ^ p is at most the word.
-- Assumes nothing.
use mathlib.Core.Path.{sym}
use Rattle.words.specs.Words.{bit}
use Rattle.words.proofs.BitLaws.{bit_le, bit_not, one_shl}
use Rattle.words.proofs.ChangeLaws.{without-set, without-unset}
use Rattle.words.proofs.inner.without_pattern.Goals as goal

pub overflow_sub-result : goal.overflow_sub-result
unfolding bit
overflow_sub-result c =
    let a = c.args in
    rw (one_shl 64 a.p c.requires) (bit_le a.word a.p c.if-word-p-eq1.true)

pub returns-then-word-p-eq1 : goal.returns-then-word-p-eq1
unfolding bit
returns-then-word-p-eq1 c =
    let a = c.args in
    rw (one_shl 64 a.p c.requires) (sym (without-set a.word a.p c.if-word-p-eq1.true))

pub returns-else-word-p-eq1 : goal.returns-else-word-p-eq1
unfolding bit
returns-else-word-p-eq1 c =
    let a = c.args in
    sym (without-unset a.word a.p (bit_not a.word a.p c.if-word-p-eq1.false))
