-- `records::inner::lay_words` meets its contract.
-- Assumes nothing.
use mathlib.Core.Path.{◌≡◌}
use Prim.Native.Nat.{◌+◌, ◌*◌}
use lib.ListN.{length, drop}
use Rattle.records.specs.Laying.{pen, laid}
use Rattle.records.specs.Numbers.{u64s}
use Rattle.records.proofs.inner.lay_words.Given as goal

abbrev pub invariant-loop-word : goal.invariant-loop-word
invariant-loop-word l =
    (length l.out ≡ length l.initial.out) × (l.place ≡ l.at + 8 * l.word-index) × (laid (u64s (drop l.word-index l.words)) (pen l.out l.place) ≡ laid (u64s l.words) (pen l.initial.out l.at))
