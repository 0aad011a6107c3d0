-- `layout::inner::filling::read_offsets` meets its contract.
-- Assumes nothing.
use mathlib.Core.Bool.{true}
use mathlib.Core.Path.{◌≡◌}
use Prim.Native.Nat.{◌-◌, ◌*◌, ◌≤◌}
use lib.ListN.{length, drop}
use lib.Seq.{sets}
use Rattle.layout.specs.Tables.{offsets_from}
use Rattle.layout.specs.Reading.{lists_fit, lists_in}
use Rattle.layout.proofs.inner.filling.read_offsets.Given as goal

abbrev pub invariant-loop-k : goal.invariant-loop-k
invariant-loop-k l =
    (l.at ≤ length l.payload)
    × (l.ids ≤ 255 * l.k)
    × (length l.offsets ≡ length l.initial.offsets)
    × (lists_fit (l.lists - l.k) (drop l.at l.payload) ≡ true)
    × (sets l.offsets l.k (offsets_from l.ids (lists_in (l.lists - l.k) (drop l.at l.payload))) ≡ sets l.initial.offsets 0 (offsets_from 0 (lists_in l.lists l.payload)))
