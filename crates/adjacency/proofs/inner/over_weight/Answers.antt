-- `adjacency::inner::over_weight` meets its contract. The invariant: the sum is that of the weights passed, and at most 1,024.
-- Assumes nothing.
use mathlib.Core.Path.{◌≡◌, refl, sym, ap}
use Prim.Native.Nat.{◌+◌}
use native.Mathlib.Omega.{arith}
use lib.ListN.{length}
use borrow.Author.Tests.{lt-ltb, le-ltb}
use Rattle.loops.specs.Sums.{sum_to}
use Rattle.adjacency.specs.Weights.{weight_of, whole_weight}
use Rattle.adjacency.specs.Checks.{over_weight}
use Rattle.loops.proofs.SumLaws.{sum_more, sum-up_to}
use Rattle.adjacency.proofs.inner.over_weight.Goals as goal

pub loop-weight-init : goal.loop-weight-init
unfolding sum_to
loop-weight-init c = (omega arith, refl)

pub returns-then-sum-weight : goal.returns-then-sum-weight
unfolding over_weight whole_weight
returns-then-sum-weight c =
    let ws = c.args.weights.now in
    let i = c.loop-weight.weight-index in
    sym (lt-ltb 1024 (sum_to (length ws) (weight_of ws)) (omega (arith, sum_more i (weight_of ws), sum-up_to (i + 1) (length ws) (weight_of ws) (omega arith))))

pub loop-weight-preserved : goal.loop-weight-preserved
loop-weight-preserved c = omega (arith, sum_more c.loop-weight.weight-index (weight_of c.args.weights.now))

pub returns : goal.returns
unfolding over_weight whole_weight
returns c =
    let ws = c.args.weights.now in
    let end : c.loop-weight.weight-index ≡ length ws = omega arith in
    sym (le-ltb 1024 (sum_to (length ws) (weight_of ws)) (omega (arith, ap (λ n. sum_to n (weight_of ws)) end)))
