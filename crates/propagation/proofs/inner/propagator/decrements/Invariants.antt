-- `propagation::inner::propagator::decrements` meets its contract. The invariant: what is left of the list, done to the slices now, is what was left of it at
-- the loop's start, done to those there; the slices are as they must be, and the first that is left has one support. The measure is what is left of the list.
-- Assumes nothing.
use mathlib.Core.Path.{◌≡◌}
use Prim.Native.Nat.{◌-◌}
use lib.ListN.{length, drop}
use Rattle.loops.specs.Loops.{each}
use Rattle.consistency.specs.Worklist.{decrement}
use Rattle.notes.specs.Watching.{watching}
use Rattle.propagation.proofs.LentLaws.{memory, piled, state_in, Going}
use Rattle.propagation.proofs.VisitLaws.{Losing}
use Rattle.propagation.proofs.inner.propagator.decrements.Given as goal

abbrev pub invariant-loop-i : goal.invariant-loop-i
invariant-loop-i l =
    (each (decrement l.count (watching l.weights l.noise l.cells) l.cell l.d) (drop l.i l.list) (state_in l.count (memory l.domains l.counts l.pending l.floats l.marks) (piled l.top l.empty))
    ≡ each (decrement l.count (watching l.weights l.noise l.cells) l.cell l.d) (drop l.initial.i l.list) (state_in l.count (memory l.initial.domains l.initial.counts l.initial.pending l.initial.floats l.initial.marks) (piled l.initial.top l.initial.empty)))
    × Going l.count l.cells l.weights l.noise (memory l.initial.domains l.initial.counts l.initial.pending l.initial.floats l.initial.marks) (memory l.domains l.counts l.pending l.floats l.marks) (piled l.top l.empty)
    × Losing l.count l.cell l.d (drop l.i l.list) l.counts

abbrev pub decreases-loop-i : goal.decreases-loop-i
decreases-loop-i l =
    length l.list - l.i
