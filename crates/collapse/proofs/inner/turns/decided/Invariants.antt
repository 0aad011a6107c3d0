-- `collapse::inner::turns::decided` meets its contract. The invariant: every cell that is left has one pattern exactly where every cell has.
-- Assumes nothing.
use mathlib.Core.Path.{◌≡◌}
use Prim.Native.Nat.{◌-◌}
use lib.ListN.{length, drop}
use Rattle.course.specs.Run.{decided}
use Rattle.collapse.proofs.inner.turns.decided.Given as goal

abbrev pub invariant-loop-c : goal.invariant-loop-c
invariant-loop-c l = decided (drop l.c l.domains) ≡ decided l.domains

abbrev pub decreases-loop-c : goal.decreases-loop-c
decreases-loop-c l = length l.domains - l.c
