-- `layout::inner::shape::kinds_fit` meets its contract.
-- Assumes nothing.
use mathlib.Core.Path.{◌≡◌}
use Rattle.std.specs.Slice.Iter.{chunks_exact_rest, chunks_exact_size}
use Rattle.records.specs.Numbers.{numbers_in}
use Rattle.layout.specs.Reading.{kinds_fit}
use Rattle.layout.proofs.inner.shape.kinds_fit.Given as goal

abbrev pub invariant-loop-forbid : goal.invariant-loop-forbid
invariant-loop-forbid l =
    (goal.iterator-loop-forbid).can_next l.forbid-iterator
    × (goal.iterator-loop-forbid).is_finite l.forbid-iterator
    × (chunks_exact_size l.forbid-iterator ≡ 6)
    × (kinds_fit (numbers_in (chunks_exact_rest l.forbid-iterator)) ≡ kinds_fit (numbers_in l.payload))
