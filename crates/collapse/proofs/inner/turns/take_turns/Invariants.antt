-- `collapse::inner::turns::take_turns` meets its contract. The invariant: the slices stand for a state that the run reaches. The measure: the
-- open cells.
-- Assumes nothing.
use Rattle.adjacency.specs.Tables.{table}
use Rattle.grid.specs.Grid.{grid, cells}
use Rattle.course.specs.Run.{given}
use Rattle.propagation.proofs.LentLaws.{memory}
use Rattle.course.proofs.OpenLaws.{open_cells}
use Rattle.collapse.proofs.TurnsLaws.{Turns}
use Rattle.collapse.proofs.inner.turns.take_turns.Given as goal

abbrev pub invariant-loop-stop : goal.invariant-loop-stop
invariant-loop-stop l =
    Turns (given (table l.count l.offsets l.ids) l.weights (grid l.width l.height l.mode) l.noise) l.words l.weighted (memory l.initial.domains l.initial.counts l.initial.pending l.initial.floats l.initial.marks) (memory l.domains l.counts l.pending l.floats l.marks) l.used

abbrev pub decreases-loop-stop : goal.decreases-loop-stop
decreases-loop-stop l =
    open_cells (cells (grid l.width l.height l.mode)) l.domains
