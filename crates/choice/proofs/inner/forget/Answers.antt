-- `choice::inner::forget` meets its contract. The invariant: what is left to make zero leaves what was to be left.
-- Assumes nothing.
use mathlib.Core.Path.{refl, sym, ◌∙◌}
use native.Mathlib.Omega.{arith}
use lib.ListN.{length-set}
use Rattle.choice.proofs.CacheLaws.{zeroed_turn, zeroed_end, zeroed_forgotten}
use Rattle.choice.proofs.inner.forget.Goals as goal

pub loop-i-init : goal.loop-i-init
loop-i-init c = (refl, refl)

pub loop-i-smaller : goal.loop-i-smaller
loop-i-smaller c = simp length-set (omega arith)

pub loop-i-preserved : goal.loop-i-preserved
loop-i-preserved c =
    let (long, left) = c.loop-i.invariant in
    (simp length-set long, zeroed_turn c.loop-i.marks c.loop-i-test.true ∙ left)

pub shape_of-marks : goal.shape_of-marks
shape_of-marks c = c.loop-i.invariant.0

pub returns : goal.returns
returns c = sym (zeroed_end c.loop-i.marks c.loop-i-test.false) ∙ c.loop-i.invariant.1 ∙ zeroed_forgotten _ _
