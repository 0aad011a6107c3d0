-- `faults::inner::search::unanswered` meets its contract. The invariant: the first entry that does not answer from place i on is the first of all.
-- Assumes nothing.
use mathlib.Core.Path.{◌≡◌}
use Prim.Native.Nat.{◌-◌}
use lib.ListN.{length}
use Rattle.faults.specs.Places.{first_failing, answers_in}
use Rattle.faults.proofs.inner.search.unanswered.Given as goal

abbrev pub invariant-loop-id : goal.invariant-loop-id
invariant-loop-id l =
    let fits = answers_in l.table l.p l.d l.list in
    first_failing fits l.id-index (length l.list - l.id-index) ≡ first_failing fits 0 (length l.list)
