-- `records::inner::lay_numbers` meets its contract.
-- Assumes nothing.
use mathlib.Core.Path.{◌≡◌}
use Prim.Native.Nat.{◌+◌, ◌*◌}
use lib.ListN.{length, drop}
use Rattle.records.specs.Laying.{pen, laid}
use Rattle.records.specs.Numbers.{u16s}
use Rattle.records.proofs.inner.lay_numbers.Given as goal

abbrev pub invariant-loop-number : goal.invariant-loop-number
invariant-loop-number l =
    (length l.out ≡ length l.initial.out) × (l.place ≡ l.at + 2 * l.number-index) × (laid (u16s (drop l.number-index l.numbers)) (pen l.out l.place) ≡ laid (u16s l.numbers) (pen l.initial.out l.at))
