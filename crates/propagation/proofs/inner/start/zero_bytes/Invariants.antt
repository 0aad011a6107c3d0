-- `propagation::inner::start::start::zero_bytes` meets its contract. The invariant: all entries before i are zero.
-- Assumes nothing.
use Prim.Native.Nat.{◌-◌}
use lib.ListN.{length}
use Rattle.loops.proofs.FillLaws.{Filled}
use Rattle.propagation.proofs.inner.start.zero_bytes.Given as goal

abbrev pub invariant-loop-i : goal.invariant-loop-i
invariant-loop-i l = Filled 0 l.initial.bytes l.i l.bytes

abbrev pub decreases-loop-i : goal.decreases-loop-i
decreases-loop-i l = length l.initial.bytes - l.i
