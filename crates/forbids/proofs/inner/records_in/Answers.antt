-- `forbids::inner::records_in` meets its contract.
-- Assumes nothing.
use borrow.Author.Tests.{eq-eqb, ne_eqb}
use Rattle.forbids.specs.Forbids.{records_in}
use Rattle.forbids.proofs.inner.records_in.Goals as goal

pub returns-then-forbids-eq0 : goal.returns-then-forbids-eq0
unfolding records_in
returns-then-forbids-eq0 c = rw (eq-eqb _ 0 c.if-forbids-eq0.true)

pub returns : goal.returns
unfolding records_in
returns c = rw (ne_eqb _ 0 c.if-forbids-eq0.false)
