-- `adjacency::inner::Table::agrees_at` meets its contract. The invariant: what is left of the list agrees exactly where the whole does.
-- Assumes nothing.
use mathlib.Core.Path.{◌≡◌}
use lib.ListN.{drop}
use Rattle.loops.specs.Tests.{every, elem}
use Rattle.directions.specs.Directions.{opposite}
use Rattle.adjacency.specs.Tables.{list_of}
use Rattle.adjacency.specs.Checks.{agrees_at}
use Rattle.adjacency.proofs.inner.Table.agrees_at.Given as goal

abbrev pub invariant-loop-q : goal.invariant-loop-q
invariant-loop-q l = every (λ q. elem l.p (list_of l.self q (opposite l.d))) (drop l.q-index l.q-items) ≡ agrees_at l.self l.p l.d
