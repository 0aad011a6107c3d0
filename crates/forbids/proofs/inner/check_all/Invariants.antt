-- `forbids::inner::check_all` meets its contract. The invariant: the first refusal of the forbids from the index on is that of all.
-- Assumes nothing.
use mathlib.Core.List.{List}
use mathlib.Core.Path.{◌≡◌}
use Prim.Native.Nat.{ℕ}
use lib.ListN.{drop}
use Rattle.refusals.specs.Refusals.{first_of}
use Rattle.adjacency.specs.Tables.{table}
use Rattle.forbids.specs.Forbids.{forbid_tests}
use Rattle.forbids.proofs.inner.check_all.Given as goal

abbrev pub invariant-loop-forbid : goal.invariant-loop-forbid
invariant-loop-forbid l =
    (offsets ids : List ℕ)
    → first_of (forbid_tests (table l.count offsets ids) l.grid (drop l.forbid-index l.forbids)) ≡ first_of (forbid_tests (table l.count offsets ids) l.grid l.forbids)
