-- `layout::inner::writing::lay_each_forbid` meets its contract.
-- Assumes nothing.
use mathlib.Core.Path.{◌≡◌}
use Rattle.std.specs.Slice.Iter.{chunks_exact_rest, chunks_exact_size}
use Rattle.records.specs.Numbers.{u16s}
use Rattle.records.specs.Laying.{pen, laid}
use Rattle.layout.specs.Tables.{stored}
use Rattle.layout.specs.Lending.{Numbered}
use Rattle.layout.proofs.inner.writing.lay_each_forbid.Given as goal

abbrev pub invariant-loop-forbid : goal.invariant-loop-forbid
invariant-loop-forbid l =
    (goal.iterator-loop-forbid).can_next l.forbid-iterator
    × (goal.iterator-loop-forbid).is_finite l.forbid-iterator
    × (chunks_exact_size l.forbid-iterator ≡ 3)
    × Numbered (chunks_exact_rest l.forbid-iterator)
    × (laid (u16s (stored (chunks_exact_rest l.forbid-iterator))) (pen l.out l.place) ≡ laid (u16s (stored l.forbids)) (pen l.initial.out l.at))
