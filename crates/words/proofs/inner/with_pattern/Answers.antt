-- `words::inner::with_pattern` meets its contract: where bit p is not set, adding 2 ^ p sets it and nothing else.
-- Assumes nothing.
use mathlib.Core.Path.{sym}
use native.Mathlib.Omega.{arith}
use Rattle.words.specs.Words.{bit}
use Rattle.words.proofs.BitLaws.{bit_not, one_shl}
use Rattle.words.proofs.ChangeLaws.{joined-set, joined-unset, joined-lt}
use Rattle.words.proofs.inner.with_pattern.Goals as goal

pub returns-then-word-p-eq1 : goal.returns-then-word-p-eq1
unfolding bit
returns-then-word-p-eq1 c =
    let a = c.args in
    sym (joined-set a.word a.p c.if-word-p-eq1.true)

pub overflow_add-result : goal.overflow_add-result
unfolding bit
overflow_add-result c =
    let a = c.args in
    let e = joined-unset a.word a.p (bit_not a.word a.p c.if-word-p-eq1.false) in
    rw (one_shl 64 a.p c.requires) (record { fits = omega (arith, e, joined-lt 64 a.word a.p c.ranges.word.fits c.requires) })

pub returns-else-word-p-eq1 : goal.returns-else-word-p-eq1
unfolding bit
returns-else-word-p-eq1 c =
    let a = c.args in
    rw (one_shl 64 a.p c.requires) (sym (joined-unset a.word a.p (bit_not a.word a.p c.if-word-p-eq1.false)))
