-- `trace_c::choose_all` is safe and ends. The invariant: the steps so far lead where the next may go on, and there is room to tell a choice for each word.
-- Assumes nothing.
use mathlib.Core.Path.{◌≡◌}
use Prim.Native.Nat.{◌*◌, ◌≤◌}
use lib.ListN.{length}
use Rattle.adjacency.specs.Tables.{table}
use Rattle.grid.specs.Grid.{grid}
use Rattle.course.specs.Run.{given}
use Rattle.course.specs.Called.{memory}
use Rattle.trace_c.proofs.GoingLaws.{Led}
use Rattle.trace_c.proofs.choose_all.Given as goal

abbrev pub invariant-loop-k : goal.invariant-loop-k
invariant-loop-k l =
    (Led (given (table l.count l.offsets l.ids) l.weights (grid l.width l.height l.mode) l.noise) (memory l.initial.domains l.initial.counts l.initial.pending l.initial.floats l.initial.marks) (memory l.domains l.counts l.pending l.floats l.marks))
    × (length l.places ≡ length l.initial.places) × (length l.entropies ≡ length l.initial.entropies) × (length l.words ≤ 65536) × (length l.initial.places ≡ 2 * length l.words) × (length l.initial.entropies ≡ length l.words)
