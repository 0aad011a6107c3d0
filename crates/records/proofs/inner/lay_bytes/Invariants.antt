-- `records::inner::lay_bytes` meets its contract.
-- Assumes nothing.
use mathlib.Core.Path.{◌≡◌}
use Prim.Native.Nat.{◌+◌}
use lib.ListN.{length, drop}
use Rattle.records.specs.Laying.{pen, laid}
use Rattle.records.proofs.inner.lay_bytes.Given as goal

abbrev pub invariant-loop-byte : goal.invariant-loop-byte
invariant-loop-byte l =
    (length l.out ≡ length l.initial.out) × (l.place ≡ l.at + l.byte-index) × (laid (drop l.byte-index l.bytes) (pen l.out l.place) ≡ laid l.bytes (pen l.initial.out l.at))
