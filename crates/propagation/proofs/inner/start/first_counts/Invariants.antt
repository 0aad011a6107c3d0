-- `propagation::inner::start::start::first_counts` meets its contract. The invariant: the counts before i are as long as their lists.
-- Assumes nothing.
use mathlib.Core.Path.{◌≡◌}
use Prim.Native.Nat.{ℕ, ◌-◌, ◌*◌, ◌≤◌, ◌<◌}
use lib.ListN.{length, get_or}
use Rattle.adjacency.specs.Tables.{table}
use Rattle.propagation.proofs.CountLaws.{first_count}
use Rattle.propagation.proofs.inner.start.first_counts.Given as goal

abbrev pub invariant-loop-i : goal.invariant-loop-i
invariant-loop-i l =
    (l.i ≤ 4 * l.count) × (length l.counts ≡ length l.initial.counts) × ((k : ℕ) → k < l.i → get_or l.counts k 0 ≡ first_count (table l.count l.offsets l.ids) k)

abbrev pub decreases-loop-i : goal.decreases-loop-i
decreases-loop-i l = 4 * l.count - l.i
