-- `adjacency::inner::four_sums` meets its contract. The invariant: the entries passed are the sums of their words, and the others are 0.
-- Assumes nothing.
use mathlib.Core.Path.{◌≡◌}
use lib.ListN.{length}
use Rattle.adjacency.proofs.FourLaws.{MadeTo}
use Rattle.adjacency.proofs.inner.four_sums.Given as goal

abbrev pub invariant-loop-e : goal.invariant-loop-e
invariant-loop-e l = (256 ≡ length l.sums) × MadeTo l.weights l.sums l.e
