-- `trace_c::lay_all` meets its contract. The invariant: the steps so far lead where the next may go on.
-- Assumes nothing.
use Rattle.adjacency.specs.Tables.{table}
use Rattle.grid.specs.Grid.{grid}
use Rattle.course.specs.Run.{given}
use Rattle.course.specs.Called.{memory}
use Rattle.trace_c.proofs.GoingLaws.{Led}
use Rattle.trace_c.proofs.lay_all.Given as goal

abbrev pub invariant-loop-i : goal.invariant-loop-i
invariant-loop-i l =
    Led (given (table l.count l.offsets l.ids) l.weights (grid l.width l.height l.mode) l.noise) (memory l.initial.domains l.initial.counts l.initial.pending l.initial.floats l.initial.marks) (memory l.domains l.counts l.pending l.floats l.marks)
