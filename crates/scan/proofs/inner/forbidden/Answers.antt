-- `scan::inner::forbidden` meets its contract: by whether a byte is left, and whether this one may stand there.
-- Assumes nothing.
use mathlib.Core.Bool.{Bool, cond}
use mathlib.Core.Path.{◌≡◌, sym, ap, ◌∙◌}
use Prim.Native.Nat.{ℕ, suc, ◌-◌, ◌%◌}
use native.Mathlib.Omega.{arith}
use Rattle.scan.specs.Scanning.{kind_fits, forbidden}
use Rattle.scan.specs.declared.inner.Scan.TheVariants.{Bad, Forbids}
use Rattle.scan.proofs.inner.forbidden.Goals as goal

-- where a byte is left
forbidden-is : (left x : ℕ) → (left ≡ 0 → ⊥) → {fits : Bool} → kind_fits (left % 6) x ≡ fits → cond fits (Forbids (left - 1)) Bad ≡ forbidden left x
unfolding forbidden
forbidden-is left x h {fits} e =
    let more : left ≡ suc (left - 1) = omega arith in
    sym (ap (λ (n : ℕ). forbidden n x) more ∙ ap (λ (b : Bool). cond b (Forbids (left - 1)) Bad) (sym (ap (λ (n : ℕ). kind_fits (n % 6) x) more) ∙ e))

pub returns-then-left-eq0 : goal.returns-then-left-eq0
unfolding forbidden
returns-then-left-eq0 c = rw c.if-left-eq0.true

pub returns-then-not-kind_fits : goal.returns-then-not-kind_fits
returns-then-not-kind_fits c = forbidden-is c.args.left c.args.x c.if-left-eq0.false (sym c.kind_fits.ensures ∙ c.if-not-kind_fits.true)

pub returns : goal.returns
returns c = forbidden-is c.args.left c.args.x c.if-left-eq0.false (sym c.kind_fits.ensures ∙ c.if-not-kind_fits.false)
