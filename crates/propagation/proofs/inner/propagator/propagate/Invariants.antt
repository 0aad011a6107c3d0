-- `propagation::inner::propagator::propagate` meets its contract. The invariant: the slices now lead to the same end as those at the loop's start, and are as they
-- must be. The measure: the removals pending, and one for each pattern possible.
-- Assumes nothing.
use mathlib.Core.Path.{◌≡◌}
use Prim.Native.Nat.{◌+◌}
use Rattle.adjacency.specs.Tables.{table}
use Rattle.grid.specs.Grid.{grid}
use Rattle.consistency.specs.Worklist.{propagated}
use Rattle.consistency.specs.Safe.{total}
use Rattle.notes.specs.Watching.{watching}
use Rattle.propagation.proofs.LentLaws.{memory, piled, state_in, Going}
use Rattle.propagation.proofs.inner.propagator.propagate.Given as goal

abbrev pub invariant-loop-top : goal.invariant-loop-top
invariant-loop-top l =
    (propagated (table l.count l.offsets l.ids) (grid l.width l.height l.mode) (watching l.weights l.noise l.cells) (state_in l.count (memory l.domains l.counts l.pending l.floats l.marks) (piled l.top l.empty))
    ≡ propagated (table l.count l.offsets l.ids) (grid l.width l.height l.mode) (watching l.weights l.noise l.cells) (state_in l.count (memory l.initial.domains l.initial.counts l.initial.pending l.initial.floats l.initial.marks) (piled l.initial.top l.initial.empty)))
    × Going l.count l.cells l.weights l.noise (memory l.initial.domains l.initial.counts l.initial.pending l.initial.floats l.initial.marks) (memory l.domains l.counts l.pending l.floats l.marks) (piled l.top l.empty)

abbrev pub decreases-loop-top : goal.decreases-loop-top
decreases-loop-top l =
    l.top + total l.count l.cells l.domains
