-- `starting::given::any_empty` meets its contract. The invariant: what is left has an empty cell exactly where the whole has.
-- Assumes nothing.
use mathlib.Core.Path.{◌≡◌}
use Prim.Native.Nat.{◌-◌, ◌≤◌}
use lib.ListN.{length, drop}
use Rattle.consistency.specs.Domains.{emptied}
use Rattle.starting.proofs.given.any_empty.Given as goal

abbrev pub invariant-loop-cell : goal.invariant-loop-cell
invariant-loop-cell l = (l.cell ≤ length l.domains) × (emptied (drop l.cell l.domains) ≡ emptied l.domains)

abbrev pub decreases-loop-cell : goal.decreases-loop-cell
decreases-loop-cell l = length l.domains - l.cell
