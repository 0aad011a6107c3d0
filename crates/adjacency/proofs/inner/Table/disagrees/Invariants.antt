-- `adjacency::inner::Table::disagrees` meets its contract. The invariant: each list passed agrees.
-- Assumes nothing.
use mathlib.Core.Bool.{true}
use mathlib.Core.Path.{◌≡◌}
use Prim.Native.Nat.{◌/◌, ◌%◌}
use Rattle.loops.specs.Tests.{all_to}
use Rattle.adjacency.specs.Checks.{agrees_at}
use Rattle.adjacency.proofs.inner.Table.disagrees.Given as goal

abbrev pub invariant-loop-k : goal.invariant-loop-k
invariant-loop-k l = all_to l.k (λ i. agrees_at l.self (i / 4) (i % 4)) ≡ true
