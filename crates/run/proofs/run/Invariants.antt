-- `run::run` meets its contract. The invariant: the forbids before place i are laid, and the rest laid from here is all of them laid from the start.
-- Assumes nothing.
use Prim.Native.Nat.{◌-◌}
use lib.ListN.{length}
use Rattle.adjacency.specs.Tables.{table}
use Rattle.grid.specs.Grid.{grid}
use Rattle.course.specs.Run.{given}
use Rattle.course.specs.Called.{memory}
use Rattle.run.proofs.WalkLaws.{Going}
use Rattle.run.proofs.run.Given as goal

abbrev pub invariant-loop-i : goal.invariant-loop-i
invariant-loop-i l =
    Going (given (table l.count l.offsets l.ids) l.weights (grid l.width l.height l.mode) l.noise) l.forbids
    (memory l.fn.domains l.fn.counts l.fn.pending l.fn.floats l.fn.marks) l.i (memory l.domains l.counts l.pending l.floats l.marks)

abbrev pub decreases-loop-i : goal.decreases-loop-i
decreases-loop-i l = length l.forbids - l.i
