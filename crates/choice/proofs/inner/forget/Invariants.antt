-- `choice::inner::forget` meets its contract. The invariant: what is left to make zero leaves what was to be left.
-- Assumes nothing.
use mathlib.Core.Path.{◌≡◌}
use Prim.Native.Nat.{◌-◌, ◌*◌}
use lib.ListN.{length}
use Rattle.choice.proofs.CacheLaws.{zeroed}
use Rattle.choice.proofs.inner.forget.Given as goal

abbrev pub invariant-loop-i : goal.invariant-loop-i
invariant-loop-i l = (length l.marks ≡ length l.initial.marks) × (zeroed l.i l.marks ≡ zeroed (2 * l.cells) l.initial.marks)

abbrev pub decreases-loop-i : goal.decreases-loop-i
decreases-loop-i l = length l.marks - l.i
