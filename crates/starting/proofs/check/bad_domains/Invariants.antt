-- `starting::check::bad_domains` meets its contract. The invariant: the domains from here on are within the count exactly where all are.
-- Assumes nothing.
use mathlib.Core.Bool.{not}
use mathlib.Core.Path.{◌≡◌}
use Prim.Native.Nat.{◌-◌, ◌≤◌}
use lib.ListN.{length, drop}
use Rattle.loops.specs.Tests.{every}
use Rattle.words.specs.Words.{beyond}
use Rattle.starting.proofs.check.bad_domains.Given as goal

abbrev pub invariant-loop-cell : goal.invariant-loop-cell
invariant-loop-cell l =
    (l.cell ≤ length l.domains) × (every (λ w. not (beyond l.count w)) (drop l.cell l.domains) ≡ every (λ w. not (beyond l.count w)) l.domains)

abbrev pub decreases-loop-cell : goal.decreases-loop-cell
decreases-loop-cell l = length l.domains - l.cell
