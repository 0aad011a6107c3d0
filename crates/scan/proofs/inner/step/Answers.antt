-- `scan::inner::step` meets its contract: by the state.
-- Assumes nothing.
use mathlib.Core.Path.{◌≡◌, sym, ap, ◌∙◌}
use Prim.Native.Nat.{◌+◌, ◌*◌}
use native.Mathlib.Omega.{arith}
use Rattle.scan.specs.Scanning.{step}
use Rattle.scan.proofs.inner.step.Goals as goal

pub returns-in-Bad : goal.returns-in-Bad
unfolding step
returns-in-Bad c = sym (ap (step c.args.x) c.in-Bad.is)

pub returns-in-Head : goal.returns-in-Head
unfolding step
returns-in-Head c =
    let x = c.args.x in
    c.headed.ensures ∙ rw c.from.ensures (sym (ap (step x) c.in-Head.is))

pub returns-in-Count : goal.returns-in-Count
unfolding step
returns-in-Count c = sym (ap (step c.args.x) c.in-Count.is)

pub returns-in-High : goal.returns-in-High
unfolding step
returns-in-High c =
    let x = c.args.x in
    let count : c.from-in-High.result ≡ c.in-High.low + 256 * x = omega (arith, c.from_le_bytes.ensures) in
    c.counted.ensures ∙ rw count (sym (ap (step x) c.in-High.is))

pub returns-in-Pass : goal.returns-in-Pass
unfolding step
returns-in-Pass c = c.passing.ensures ∙ sym (ap (step c.args.x) c.in-Pass.is)

pub returns-in-Lists : goal.returns-in-Lists
unfolding step
returns-in-Lists c =
    let x = c.args.x in
    c.listed.ensures ∙ rw c.from-in-Lists.ensures (sym (ap (step x) c.in-Lists.is))

pub returns-in-Ids : goal.returns-in-Ids
unfolding step
returns-in-Ids c = c.within.ensures ∙ sym (ap (step c.args.x) c.in-Ids.is)

pub returns-in-Forbids : goal.returns-in-Forbids
unfolding step
returns-in-Forbids c =
    let x = c.args.x in
    c.forbidden.ensures ∙ rw c.from-in-Forbids.ensures (sym (ap (step x) c.in-Forbids.is))
