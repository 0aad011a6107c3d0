-- `choice::inner::observe` meets its contract: after y blocks the best is that of their cells, and their marks are what a look gives.
-- Assumes nothing.
use Prim.Native.Nat.{◌+◌, ◌-◌, ◌*◌}
use lib.ListN.{length}
use Rattle.choice.specs.Observer.{notes_in}
use Rattle.choice.proofs.WalkLaws.{Upto}
use Rattle.choice.proofs.inner.observe.Given as goal

abbrev pub invariant-loop-y : goal.invariant-loop-y
invariant-loop-y l = Upto l.cells (notes_in l.cells l.noise l.domains l.floats l.initial.marks l.weighted) l.initial.marks l.marks l.best l.y

abbrev pub decreases-loop-y : goal.decreases-loop-y
decreases-loop-y l = length l.initial.marks - (2 * l.cells + l.y)
