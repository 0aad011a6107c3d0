-- `forbids::inner::judge_all` meets its contract. The invariant: the first refusal of the forbids that are left is that of all.
-- Assumes nothing.
use mathlib.Core.List.{List}
use mathlib.Core.Path.{◌≡◌}
use Prim.Native.Nat.{ℕ}
use Rattle.std.specs.Slice.Iter.{chunks_exact_rest, chunks_exact_size}
use Rattle.refusals.specs.Refusals.{first_of}
use Rattle.adjacency.specs.Tables.{table}
use Rattle.forbids.specs.Forbids.{forbid_tests, forbids_of}
use Rattle.forbids.proofs.inner.judge_all.Given as goal

abbrev pub invariant-loop-forbid : goal.invariant-loop-forbid
invariant-loop-forbid l =
    (goal.iterator-loop-forbid).can_next l.forbid-iterator
    × (goal.iterator-loop-forbid).is_finite l.forbid-iterator
    × (chunks_exact_size l.forbid-iterator ≡ 3)
    × ((offsets ids : List ℕ) → first_of (forbid_tests (table l.count offsets ids) l.grid (forbids_of (chunks_exact_rest l.forbid-iterator)))
    ≡ first_of (forbid_tests (table l.count offsets ids) l.grid (forbids_of l.forbids)))
