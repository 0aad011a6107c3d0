-- `scan::inner::within` meets its contract: by whether an id is left.
-- Assumes nothing.
use mathlib.Core.Path.{◌≡◌, sym, ap, ◌∙◌}
use Prim.Native.Nat.{ℕ, suc, ◌-◌}
use native.Mathlib.Omega.{arith}
use Rattle.scan.specs.Scanning.{within}
use Rattle.scan.proofs.inner.within.Goals as goal

pub returns-then-ids-eq0 : goal.returns-then-ids-eq0
unfolding within
returns-then-ids-eq0 c =
    let a = c.args in
    c.listing.ensures ∙ sym (ap (λ (n : ℕ). within n a.left a.lists) c.if-ids-eq0.true)

pub returns : goal.returns
unfolding within
returns c =
    let a = c.args in
    let more : a.ids ≡ suc (a.ids - 1) = omega arith in
    sym (ap (λ (n : ℕ). within n a.left a.lists) more)
