-- `logarithms::inner::less` meets its contract. The invariant: what is left to take away, taken from the value now, leaves what the whole does.
-- Assumes nothing.
use mathlib.Core.Path.{◌≡◌}
use Prim.Native.Nat.{◌-◌, ◌≤◌}
use lib.ListN.{length}
use Rattle.loops.specs.Loops.{steps}
use Rattle.logarithms.specs.Entropy.{missing_at, less}
use Rattle.logarithms.proofs.inner.less.Given as goal

abbrev pub invariant-loop-p : goal.invariant-loop-p
invariant-loop-p l = (l.p ≤ length l.weights) × (steps (missing_at l.weights l.word) l.p (length l.weights - l.p) l.value ≡ less l.weights l.word)

abbrev pub decreases-loop-p : goal.decreases-loop-p
decreases-loop-p l = length l.weights - l.p
