-- `adjacency::inner::sum_of` meets its contract. The invariant: the sum is right but for the fours that are still to be looked up.
-- Assumes nothing.
use mathlib.Core.Path.{◌≡◌}
use Prim.Native.Nat.{◌*◌, ◌%◌, ◌≤◌}
use lib.ListN.{length}
use Rattle.adjacency.proofs.FourLaws.{Halfway}
use Rattle.adjacency.proofs.inner.sum_of.Given as goal

abbrev pub invariant-loop-base : goal.invariant-loop-base
invariant-loop-base l = (l.base % 64 ≡ 0) × (l.base ≤ length l.sums) × (l.sum ≤ l.base * 4096) × Halfway l.sums l.word l.sum l.left l.base
