-- `logarithms::inner::added` meets its contract, by whether the weight is 0.
-- Assumes nothing.
use borrow.Author.Tests.{eq-eqb, ne_eqb}
use Rattle.logarithms.specs.Entropy.{plus}
use Rattle.logarithms.proofs.inner.added.Goals as goal

pub returns-then-weight-eq0 : goal.returns-then-weight-eq0
unfolding plus
returns-then-weight-eq0 c = rw (eq-eqb _ _ c.if-weight-eq0.true)

pub returns : goal.returns
unfolding plus
returns c = rw (ne_eqb _ _ c.if-weight-eq0.false, c.w_log_w.ensures)
