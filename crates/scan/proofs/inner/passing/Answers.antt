-- `scan::inner::passing` meets its contract: by whether any byte is to be passed.
-- Assumes nothing.
use mathlib.Core.Path.{◌≡◌, sym, ap}
use Prim.Native.Nat.{ℕ, suc, ◌-◌}
use native.Mathlib.Omega.{arith}
use Rattle.scan.specs.Scanning.{passing}
use Rattle.scan.proofs.inner.passing.Goals as goal

pub returns-then-left-eq0 : goal.returns-then-left-eq0
unfolding passing
returns-then-left-eq0 c = rw c.if-left-eq0.true

pub returns : goal.returns
unfolding passing
returns c =
    let a = c.args in
    let more : a.left ≡ suc (a.left - 1) = omega arith in
    sym (ap (λ (n : ℕ). passing n a.kind a.lists) more)
