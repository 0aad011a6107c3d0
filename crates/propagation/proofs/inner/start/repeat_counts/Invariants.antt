-- `propagation::inner::start::start::repeat_counts` meets its contract. The invariant: the counts before i are the first cell's.
-- Assumes nothing.
use mathlib.Core.Path.{◌≡◌}
use Prim.Native.Nat.{ℕ, ◌-◌, ◌*◌, ◌%◌, ◌≤◌, ◌<◌}
use lib.ListN.{length, get_or}
use Rattle.propagation.proofs.inner.start.repeat_counts.Given as goal

abbrev pub invariant-loop-i : goal.invariant-loop-i
invariant-loop-i l =
    (4 * l.count ≤ l.i) × (l.i ≤ length l.initial.counts) × (length l.counts ≡ length l.initial.counts) × ((k : ℕ) → k < l.i → get_or l.counts k 0 ≡ get_or l.initial.counts (k % (4 * l.count)) 0)

abbrev pub decreases-loop-i : goal.decreases-loop-i
decreases-loop-i l = length l.initial.counts - l.i
