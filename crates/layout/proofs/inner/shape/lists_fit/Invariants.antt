-- `layout::inner::shape::lists_fit` meets its contract.
-- Assumes nothing.
use mathlib.Core.Path.{◌≡◌}
use Prim.Native.Nat.{◌-◌, ◌≤◌}
use lib.ListN.{length, drop}
use Rattle.layout.specs.Reading.{lists_fit}
use Rattle.layout.proofs.inner.shape.lists_fit.Given as goal

abbrev pub invariant-loop : goal.invariant-loop
invariant-loop l = (l.at ≤ length l.payload) × (lists_fit (l.lists - l.counter) (drop l.at l.payload) ≡ lists_fit l.lists l.payload)
