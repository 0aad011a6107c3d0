-- `propagation::inner::num_ways::try_decrement` meets its contract: a count below 2 is written as it was, and any other less one.
-- Assumes nothing.
use mathlib.Core.Bool.{Bool, true, false, cond}
use mathlib.Core.List.{List}
use mathlib.Core.Path.{◌≡◌, refl, ap, ◌∙◌}
use Prim.Native.Nat.{ℕ, ◌-◌, ◌≤◌}
use native.Mathlib.Nat.{sub-zero}
use native.Mathlib.Omega.{arith}
use lib.Dec.{ltb}
use lib.ListN.{get_or, set}
use lib.Seq.{set-get_or}
use mir.Val.{bool_byte}
use borrow.Author.Tests.{ltb-true}
use Rattle.propagation.specs.Supports.{visit, visit_at}
use Rattle.propagation.proofs.inner.num_ways.try_decrement.Goals as goal

-- what is taken from a count is there
there : (n : ℕ) (more : Bool) → ltb 1 n ≡ more → bool_byte more ≤ n
there n false e = omega arith
there n true e = omega (arith, ltb-true 1 n e)

-- a count from which nothing is taken is written as it was
written : (l : List ℕ) (k : ℕ) (more : Bool) → set l k (get_or l k 0 - bool_byte more) ≡ cond more (set l k (get_or l k 0 - 1)) l
written l k false = ap (set l k) (sub-zero (get_or l k 0)) ∙ set-get_or l k 0
written l k true = refl

pub overflow_sub-counts : goal.overflow_sub-counts
overflow_sub-counts c =
    let a = c.args in
    there (get_or a.counts.now a.at 0) _ refl

pub returns : goal.returns
unfolding visit_at
returns c =
    let a = c.args in
    ap (visit _) (written a.counts.now a.at (ltb 1 (get_or a.counts.now a.at 0)))
