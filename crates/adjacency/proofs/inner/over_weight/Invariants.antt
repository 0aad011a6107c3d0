-- `adjacency::inner::over_weight` meets its contract. The invariant: the sum is that of the weights passed, and at most 1,024.
-- Assumes nothing.
use mathlib.Core.Path.{◌≡◌}
use Prim.Native.Nat.{◌≤◌}
use Rattle.loops.specs.Sums.{sum_to}
use Rattle.adjacency.specs.Weights.{weight_of}
use Rattle.adjacency.proofs.inner.over_weight.Given as goal

abbrev pub invariant-loop-weight : goal.invariant-loop-weight
invariant-loop-weight l = (l.sum ≤ 1024) × (l.sum ≡ sum_to l.weight-index (weight_of l.weights))
