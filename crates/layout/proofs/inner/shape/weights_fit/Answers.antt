-- `layout::inner::shape::weights_fit` meets its contract.
-- Assumes nothing.
use Rattle.layout.proofs.ShapeLaws.{weights-short, weights_long}
use Rattle.layout.proofs.inner.shape.weights_fit.Goals as goal

pub returns-then-payload-lt2 : goal.returns-then-payload-lt2
returns-then-payload-lt2 c = weights-short _ c.if-payload-lt2.true

pub returns : goal.returns
returns c = weights_long _ c.if-payload-lt2.false c.u16_at.ensures.0
