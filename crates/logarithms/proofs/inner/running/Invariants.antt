-- `logarithms::inner::running` meets its contract. The invariant: what is left to add, added to the value now, is the whole.
-- Assumes nothing.
use mathlib.Core.Path.{◌≡◌}
use Prim.Native.Nat.{◌-◌, ◌≤◌}
use lib.ListN.{length}
use Rattle.loops.specs.Loops.{steps}
use Rattle.logarithms.specs.Entropy.{added_at, running}
use Rattle.logarithms.proofs.inner.running.Given as goal

abbrev pub invariant-loop-p : goal.invariant-loop-p
invariant-loop-p l = (l.p ≤ length l.weights) × (steps (added_at l.weights) l.p (length l.weights - l.p) l.value ≡ running l.weights)

abbrev pub decreases-loop-p : goal.decreases-loop-p
decreases-loop-p l = length l.weights - l.p
