-- `records::inner::read_numbers` meets its contract.
-- Assumes nothing.
use mathlib.Core.Path.{◌≡◌}
use Prim.Native.Nat.{◌*◌}
use lib.ListN.{length, drop}
use lib.Seq.{sets}
use Rattle.records.specs.Numbers.{numbers_in}
use Rattle.records.proofs.inner.read_numbers.Given as goal

abbrev pub invariant-loop-i : goal.invariant-loop-i
invariant-loop-i l =
    (length l.out ≡ length l.initial.out) × (sets l.out l.i (numbers_in (drop (2 * l.i) l.bytes)) ≡ sets l.initial.out 0 (numbers_in l.bytes))
