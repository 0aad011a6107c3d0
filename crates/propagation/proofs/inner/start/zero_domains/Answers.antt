-- `propagation::inner::start::start::zero_domains` meets its contract. The invariant: all entries before i are zero.
-- Assumes nothing.
use native.Mathlib.Omega.{arith}
use Rattle.loops.proofs.FillLaws.{filled_none, filled-length, filled_more, filled-all}
use Rattle.propagation.proofs.inner.start.zero_domains.Goals as goal

pub loop-i-init : goal.loop-i-init
loop-i-init c = filled_none 0 _

pub loop-i-smaller : goal.loop-i-smaller
loop-i-smaller c = omega (arith, filled-length 0 c.loop-i.invariant)

pub loop-i-preserved : goal.loop-i-preserved
loop-i-preserved c =
    let F = c.loop-i.invariant in
    filled_more 0 F (omega (arith, filled-length 0 F))

pub shape_of-domains : goal.shape_of-domains
shape_of-domains c = filled-length 0 c.loop-i.invariant

pub returns : goal.returns
returns c =
    let F = c.loop-i.invariant in
    filled-all 0 F (omega (arith, filled-length 0 F))
