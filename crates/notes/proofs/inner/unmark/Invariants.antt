-- `notes::inner::unmark` meets its contract. The invariant: what is left to clear leaves what was to be left, and the blocks' marks stay.
-- The measure is what is left to clear.
-- Assumes nothing.
use mathlib.Core.List.{List}
use mathlib.Core.Path.{◌≡◌}
use Prim.Native.Nat.{◌-◌, ◌*◌}
use lib.Ieee.{Float}
use lib.ListN.{length, drop}
use Rattle.notes.specs.Beside.{beside_in, unmarked}
use Rattle.notes.proofs.inner.unmark.Given as goal

abbrev pub invariant-loop-i : goal.invariant-loop-i
invariant-loop-i l =
    (length l.marks ≡ length l.initial.marks) × ((floats : List Float) → unmarked l.i (beside_in l.cells floats l.marks) ≡ unmarked l.cells (beside_in l.cells floats l.initial.marks))
    × (drop (2 * l.cells) l.marks ≡ drop (2 * l.cells) l.initial.marks)

abbrev pub decreases-loop-i : goal.decreases-loop-i
decreases-loop-i l = 2 * l.cells - l.i
