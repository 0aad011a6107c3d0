-- `choice::observer::scan` meets its contract: after each turn the best is that of the cells passed.
-- Assumes nothing.
use mathlib.Core.Path.{◌≡◌}
use Prim.Native.Nat.{◌-◌, ◌≤◌}
use Rattle.choice.specs.Observer.{notes_in, best_in, best_at}
use Rattle.choice.proofs.observer.scan.Given as goal

abbrev pub invariant-loop-c : goal.invariant-loop-c
invariant-loop-c l =
    (l.start ≤ l.c) × (l.c ≤ l.end) × (l.best ≤ l.cells)
    × (best_at l.cells (notes_in l.cells l.noise l.domains l.floats l.marks l.weighted) l.best ≡ best_in (notes_in l.cells l.noise l.domains l.floats l.marks l.weighted) l.start (l.c - l.start))

abbrev pub decreases-loop-c : goal.decreases-loop-c
decreases-loop-c l = l.end - l.c
