-- `propagation::inner::propagator::spread` meets its contract. The invariant: the directions that are left, done to the slices now, are all four,
-- done to those at entry; and the slices are as they must be. The measure is how many directions are left.
-- Assumes nothing.
use mathlib.Core.Path.{◌≡◌}
use Prim.Native.Nat.{◌-◌}
use Rattle.loops.specs.Loops.{steps}
use Rattle.adjacency.specs.Tables.{table}
use Rattle.grid.specs.Grid.{grid}
use Rattle.consistency.specs.Worklist.{removal, spread_in}
use Rattle.notes.specs.Watching.{watching}
use Rattle.propagation.proofs.LentLaws.{memory, piled, state_in, Going}
use Rattle.propagation.proofs.inner.propagator.spread.Given as goal

abbrev pub invariant-loop-d : goal.invariant-loop-d
invariant-loop-d l =
    (steps (spread_in (table l.count l.offsets l.ids) (grid l.width l.height l.mode) (watching l.weights l.noise l.cells) (removal l.cell l.p)) l.d (4 - l.d)
    (state_in l.count (memory l.domains l.counts l.pending l.floats l.marks) (piled l.top l.empty))
    ≡ steps (spread_in (table l.count l.offsets l.ids) (grid l.width l.height l.mode) (watching l.weights l.noise l.cells) (removal l.cell l.p)) 0 4
    (state_in l.count (memory l.initial.domains l.initial.counts l.initial.pending l.initial.floats l.initial.marks) (piled l.initial.top l.initial.empty)))
    × Going l.count l.cells l.weights l.noise (memory l.initial.domains l.initial.counts l.initial.pending l.initial.floats l.initial.marks) (memory l.domains l.counts l.pending l.floats l.marks) (piled l.top l.empty)

abbrev pub decreases-loop-d : goal.decreases-loop-d
decreases-loop-d l =
    4 - l.d
