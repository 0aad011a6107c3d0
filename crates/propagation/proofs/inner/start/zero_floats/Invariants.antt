-- `propagation::inner::start::start::zero_floats` meets its contract. The invariant: all entries before i are zero.
-- Assumes nothing.
use Prim.Native.Nat.{◌-◌}
use lib.Ieee.{binary32, of_bits}
use lib.ListN.{length}
use Rattle.loops.proofs.FillLaws.{Filled}
use Rattle.propagation.proofs.inner.start.zero_floats.Given as goal

abbrev pub invariant-loop-i : goal.invariant-loop-i
invariant-loop-i l = Filled (of_bits binary32 0) l.initial.floats l.i l.floats

abbrev pub decreases-loop-i : goal.decreases-loop-i
decreases-loop-i l = length l.initial.floats - l.i
