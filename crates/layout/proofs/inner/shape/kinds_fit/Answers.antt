-- `layout::inner::shape::kinds_fit` meets its contract.
-- Assumes nothing.
use mathlib.Core.Path.{◌∙◌}
use native.Mathlib.Omega.{arith}
use Rattle.layout.proofs.ShapeLaws.{kinds-over, kinds_more, kinds-end}
use Rattle.layout.proofs.inner.shape.kinds_fit.Goals as goal

pub returns-then-u16_at-gt1 : goal.returns-then-u16_at-gt1
returns-then-u16_at-gt1 c =
    let (rest, size) = c.in-Some.ensures.steps.1 in
    let inv = c.loop-forbid.invariant in
    kinds-over _ _ rest (size ∙ inv.2) (omega (arith, c.u16_at.ensures.0, c.if-u16_at-gt1.true)) ∙ inv.3

pub loop-forbid-preserved : goal.loop-forbid-preserved
loop-forbid-preserved c =
    let step = c.in-Some.ensures.steps in
    let (rest, size) = step.1 in
    let inv = c.loop-forbid.invariant in
    (omega (arith, step.0, inv.0), tt, step.0 ∙ inv.2, kinds_more _ _ rest (size ∙ inv.2) (omega (arith, c.u16_at.ensures.0, c.if-u16_at-gt1.false)) ∙ inv.3)

pub returns : goal.returns
returns c =
    let inv = c.loop-forbid.invariant in
    kinds-end _ (omega (arith, c.in-None.ensures.steps.1.0, inv.2)) ∙ inv.3
