-- `adjacency::inner::weight_sum` meets its contract. The invariant: the sum and what is left to sum are the whole; the word left falls.
-- Assumes nothing.
use mathlib.Core.Path.{◌≡◌}
use Prim.Native.Nat.{◌+◌, ◌^◌, ◌<◌}
use lib.ListN.{length}
use Rattle.adjacency.specs.Weights.{weight_sum}
use Rattle.adjacency.proofs.inner.weight_sum.Given as goal

abbrev pub invariant-loop-left : goal.invariant-loop-left
invariant-loop-left l = (l.left < 2 ^ length l.weights) × (l.sum + weight_sum l.weights l.left ≡ weight_sum l.weights l.word)

abbrev pub decreases-loop-left : goal.decreases-loop-left
decreases-loop-left l = l.left
