-- `collapse::inner::start::fill_domains` meets its contract. The invariant: all entries before i are so.
-- Assumes nothing.
use Prim.Native.Nat.{◌-◌, ◌≤◌}
use Rattle.loops.proofs.FillLaws.{Filled}
use Rattle.collapse.proofs.inner.start.fill_domains.Given as goal

abbrev pub invariant-loop-i : goal.invariant-loop-i
invariant-loop-i l = Filled l.word l.initial.domains l.i l.domains × (l.i ≤ l.many)

abbrev pub decreases-loop-i : goal.decreases-loop-i
decreases-loop-i l = l.many - l.i
