-- `collapse::inner::start::fill_floats` meets its contract. The invariant: all entries before i are so.
-- Assumes nothing.
use Prim.Native.Nat.{◌-◌, ◌≤◌}
use Rattle.loops.proofs.FillLaws.{Filled}
use Rattle.collapse.proofs.inner.start.fill_floats.Given as goal

abbrev pub invariant-loop-i : goal.invariant-loop-i
invariant-loop-i l = Filled l.value l.initial.floats l.i l.floats × (l.i ≤ l.many)

abbrev pub decreases-loop-i : goal.decreases-loop-i
decreases-loop-i l = l.many - l.i
