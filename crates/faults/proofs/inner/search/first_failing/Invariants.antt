-- `faults::inner::search::first_failing` meets its contract. The invariant: what is found from number k on is what is found of all.
-- Assumes nothing.
use mathlib.Core.Bool.{Bool}
use mathlib.Core.Path.{◌≡◌}
use Prim.Native.Nat.{ℕ, ◌-◌}
use Rattle.faults.specs.Places.{first_failing, Tells}
use Rattle.faults.proofs.inner.search.first_failing.Given as goal

abbrev pub invariant-loop-k : goal.invariant-loop-k
invariant-loop-k g l =
    (f : ℕ → Bool) → Tells (goal.F-post g l.fits) f l.end → first_failing f l.k (l.end - l.k) ≡ first_failing f 0 l.end
