-- `logarithms::inner::removed` meets its contract, by whether the weight is 0.
-- Assumes nothing.
use native.Mathlib.Omega.{arith}
use borrow.Author.Tests.{eq-eqb, ne_eqb}
use Rattle.logarithms.specs.Entropy.{minus}
use Rattle.logarithms.proofs.LogLaws.{logs-front, logs-long}
use Rattle.logarithms.proofs.inner.removed.Goals as goal

pub returns-then-weight-eq0 : goal.returns-then-weight-eq0
unfolding minus
returns-then-weight-eq0 c = rw (eq-eqb _ _ c.if-weight-eq0.true)

pub w_log_w-requires : goal.w_log_w-requires
w_log_w-requires c =
    let l = c.args.logs.now in
    (logs-front l c.requires.0, omega (arith, c.if-weight-eq0.false), omega (arith, c.requires, logs-long l c.requires.0))

pub returns : goal.returns
unfolding minus
returns c = rw (ne_eqb _ _ c.if-weight-eq0.false, c.w_log_w.ensures)
