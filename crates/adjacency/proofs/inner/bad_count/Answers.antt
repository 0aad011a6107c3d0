-- `adjacency::inner::bad_count` meets its contract: the two tests are the definition's.
-- Assumes nothing.
use borrow.Author.Tests.{eq-eqb, ne_eqb}
use Rattle.adjacency.specs.Checks.{bad_count}
use Rattle.adjacency.proofs.inner.bad_count.Goals as goal

pub returns-then-count-eq0 : goal.returns-then-count-eq0
unfolding bad_count
returns-then-count-eq0 c = rw (eq-eqb _ _ c.if-count-eq0.true)

pub returns-else-count-eq0 : goal.returns-else-count-eq0
unfolding bad_count
returns-else-count-eq0 c = rw (ne_eqb _ _ c.if-count-eq0.false)
