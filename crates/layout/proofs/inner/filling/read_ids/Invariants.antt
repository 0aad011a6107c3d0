-- `layout::inner::filling::read_ids` meets its contract.
-- Assumes nothing.
use mathlib.Core.Bool.{true}
use mathlib.Core.Path.{◌≡◌}
use Prim.Native.Nat.{◌-◌, ◌≤◌}
use lib.ListN.{length, drop}
use Rattle.records.specs.Laying.{pen, laid}
use Rattle.layout.specs.Tables.{joined}
use Rattle.layout.specs.Reading.{lists_fit, lists_in}
use Rattle.layout.proofs.inner.filling.read_ids.Given as goal

abbrev pub invariant-loop : goal.invariant-loop
invariant-loop l =
    (l.at ≤ length l.payload)
    × (lists_fit (l.lists - l.counter) (drop l.at l.payload) ≡ true)
    × (laid (joined (lists_in (l.lists - l.counter) (drop l.at l.payload))) (pen l.ids l.place) ≡ laid (joined (lists_in l.lists l.payload)) (pen l.initial.ids 0))
