-- `scan::inner::listing` meets its contract: by whether a list or a byte is left.
-- Assumes nothing.
use mathlib.Core.Path.{◌≡◌, sym, ap}
use Prim.Native.Nat.{suc, ◌-◌}
use native.Mathlib.Omega.{arith}
use borrow.Author.Tests.{ne_eqb}
use Rattle.scan.specs.Scanning.{listing}
use Rattle.scan.proofs.inner.listing.Goals as goal

pub returns-then-lists-ne0 : goal.returns-then-lists-ne0
unfolding listing
returns-then-lists-ne0 c =
    let a = c.args in
    let more : a.lists ≡ suc (a.lists - 1) = omega arith in
    sym (ap (listing a.left) more)

pub returns-then-left-ne0 : goal.returns-then-left-ne0
unfolding listing
returns-then-left-ne0 c = rw (c.if-lists-ne0.false, ne_eqb c.args.left 0 c.if-left-ne0.true)

pub returns : goal.returns
unfolding listing
returns c = rw (c.if-lists-ne0.false, c.if-left-ne0.false)
