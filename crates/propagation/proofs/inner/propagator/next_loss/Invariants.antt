-- `propagation::inner::propagator::next_loss` meets its contract. The invariant: what is left of the list, visited with the counts now, comes to what the list
-- from the first entry on comes to, visited with those at entry. The measure is what is left of the list.
-- Assumes nothing.
use mathlib.Core.Path.{◌≡◌}
use Prim.Native.Nat.{◌-◌}
use lib.ListN.{length, drop}
use Rattle.propagation.specs.Supports.{until_loss}
use Rattle.propagation.proofs.inner.propagator.next_loss.Given as goal

abbrev pub invariant-loop-i : goal.invariant-loop-i
invariant-loop-i l =
    (until_loss l.base l.d (drop l.i l.list) l.counts ≡ until_loss l.base l.d (drop l.initial.i l.list) l.initial.counts) × (length l.counts ≡ length l.initial.counts)

abbrev pub decreases-loop-i : goal.decreases-loop-i
decreases-loop-i l = length l.list - l.i
