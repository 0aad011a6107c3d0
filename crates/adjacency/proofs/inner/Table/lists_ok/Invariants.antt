-- `adjacency::inner::Table::lists_ok` meets its contract. The invariant: each list passed is as it must be.
-- Assumes nothing.
use mathlib.Core.Bool.{true}
use mathlib.Core.Path.{◌≡◌}
use Rattle.loops.specs.Tests.{all_to}
use Rattle.adjacency.specs.Tables.{list_at}
use Rattle.adjacency.specs.Checks.{list_ok}
use Rattle.adjacency.proofs.inner.Table.lists_ok.Given as goal

abbrev pub invariant-loop-k : goal.invariant-loop-k
invariant-loop-k l = all_to l.k (λ i. list_ok l.self.count (list_at l.self i)) ≡ true
