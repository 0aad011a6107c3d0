-- `scan::inner::past` meets its contract: the bytes that are left take the state that is reached to where all of them take the first.
-- Assumes nothing.
use mathlib.Core.Path.{◌≡◌}
use lib.ListN.{drop}
use Rattle.loops.specs.Loops.{each}
use Rattle.scan.specs.Scanning.{step}
use Rattle.scan.proofs.inner.past.Given as goal

abbrev pub invariant-loop-byte : goal.invariant-loop-byte
invariant-loop-byte l = each step (drop l.byte-index l.bytes) l.reached ≡ each step l.bytes l.initial.reached
