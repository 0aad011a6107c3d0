-- `layout::inner::shape::forbids_fit` meets its contract.
-- Assumes nothing.
use mathlib.Core.Path.{refl, sym}
use borrow.Author.Tests.{le-leb, lt-leb, eq-eqb, ne_eqb}
use Rattle.layout.proofs.ShapeLaws.{forbids-is}
use Rattle.layout.proofs.inner.shape.forbids_fit.Goals as goal

pub returns-then-payload-ne0 : goal.returns-then-payload-ne0
returns-then-payload-ne0 c = sym (forbids-is _ (ne_eqb _ _ c.if-payload-ne0.true) refl refl)

pub returns-then-payload-gt24576 : goal.returns-then-payload-gt24576
returns-then-payload-gt24576 c = sym (forbids-is _ (eq-eqb _ _ c.if-payload-ne0.false) (lt-leb _ _ c.if-payload-gt24576.true) refl)

pub returns : goal.returns
returns c = sym (forbids-is _ (eq-eqb _ _ c.if-payload-ne0.false) (le-leb _ _ c.if-payload-gt24576.false) (sym c.kinds_fit.ensures))
