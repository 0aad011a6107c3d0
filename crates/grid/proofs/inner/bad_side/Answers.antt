-- `grid::inner::bad_side` meets its contract: the code makes the tests of the definition in its order.
-- Assumes nothing.
use borrow.Author.Tests.{eq-eqb, ne_eqb}
use Rattle.grid.specs.Grid.{bad_side}
use Rattle.grid.proofs.inner.bad_side.Goals as goal

pub returns-then-side-eq0 : goal.returns-then-side-eq0
unfolding bad_side
returns-then-side-eq0 c = simp (eq-eqb _ _ c.if-side-eq0.true)

pub returns-else-side-eq0 : goal.returns-else-side-eq0
unfolding bad_side
returns-else-side-eq0 c = simp (ne_eqb _ _ c.if-side-eq0.false)
