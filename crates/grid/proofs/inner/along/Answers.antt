-- `grid::inner::along` meets its contract: the sign of the step decides, as in the definition.
-- Assumes nothing.
use mathlib.Core.Bool.{Bool, true, false, cond}
use Rattle.std.specs.Bool.{then_some}
use Rattle.std.specs.Prelude.{Option, Some}
use mathlib.Core.Path.{◌≡◌, refl, ap}
use Prim.Native.Nat.{ℕ, zero, suc, ◌+◌, ◌-◌, ◌≤◌, ◌<◌}
use native.Mathlib.Numerals.{add-one}
use native.Mathlib.Omega.{arith}
use lib.IntN.{ℤ, pos, negsuc}
use lib.Signed.{lt_z}
use borrow.Author.Rules.{rules}
use borrow.Author.Tests.{lt-ltb, le-ltb}
use mir.Syntax.{w8}
use mir.Val.{SFits, to_z, of_z}
use mir.ValLaws.{to_z-of_z}
use Rattle.grid.specs.Grid.{round, after, before, along}
use Rattle.grid.proofs.inner.along.Goals as goal

-- the definition by the sign of the step
by_sign : (w : Bool) (n i : ℕ) (s : ℤ) → along w n i s ≡ cond (lt_z (pos 0) s) (after w n i) (cond (lt_z s (pos 0)) (before w n i) (Some i))
unfolding along
by_sign w n i (pos zero) = refl
by_sign w n i (pos (suc k)) = rw (lt-ltb 0 (suc k) (omega arith))
by_sign w n i (negsuc k) = refl

-- the same by the tests that the code makes
by_tests : (w : Bool) (n i : ℕ) (s : ℤ) → SFits w8 s
    → along w n i s ≡ cond (lt_z (pos 0) (to_z w8 (of_z w8 s))) (after w n i) (cond (lt_z (to_z w8 (of_z w8 s)) (pos 0)) (before w n i) (Some i))
by_tests w n i s f = rw (to_z-of_z w8 s f) (by_sign w n i s)

-- what each step gives inside the side and at its end
module _ (w : Bool) (n i : ℕ) where
  after-inside : i + 1 < n → after w n i ≡ Some (i + 1)
  unfolding after
  after-inside h = rw (add-one, lt-ltb (suc i) n (omega arith))

  after-end : n ≤ i + 1 → after w n i ≡ round w 0
  unfolding after
  after-end h = rw (le-ltb (suc i) n (omega arith))

before-inside : (w : Bool) (n i : ℕ) → (i ≡ 0 → ⊥) → before w n i ≡ Some (i - 1)
unfolding before
before-inside w n zero h = absurd (h refl)
before-inside w n (suc i) h = ap Some (omega arith)

-- past an edge there is a place where the side wraps
then-some : (w : Bool) (i : ℕ) {o : Option ℕ} → o ≡ then_some w i → o ≡ round w i
unfolding round
then-some true i e = e
then-some false i e = e

-- a step that is neither way stays
stays : (w : Bool) (n i : ℕ) (s : ℤ) → SFits w8 s → lt_z (pos 0) (to_z w8 (of_z w8 s)) ≡ false → lt_z (to_z w8 (of_z w8 s)) (pos 0) ≡ false → Some i ≡ along w n i s
stays w n i s f on back = rw (by_tests w n i s f, on, back) refl

pub returns-then-place-length : goal.returns-then-place-length
returns-then-place-length c = rw (by_tests _ _ _ _ c.ranges.step, c.if-step-gt0.true, after-inside _ _ _ c.if-place-length.true)

pub returns-then-step-gt0 : goal.returns-then-step-gt0
unfolding round
returns-then-step-gt0 c = rw (by_tests _ _ _ _ c.ranges.step, c.if-step-gt0.true, after-end _ _ _ c.if-place-length.false) (then-some _ _ c.then_some.ensures)

pub returns-then-place-eq0 : goal.returns-then-place-eq0
unfolding before round
returns-then-place-eq0 c =
    rw (by_tests _ _ _ _ c.ranges.step, c.if-step-gt0.false, c.if-step-lt0.true, c.if-place-eq0.true)
    (then-some _ _ c.then_some-then-place-eq0.ensures)

pub returns-then-step-lt0 : goal.returns-then-step-lt0
returns-then-step-lt0 c = rw (by_tests _ _ _ _ c.ranges.step, c.if-step-gt0.false, c.if-step-lt0.true, before-inside _ _ _ c.if-place-eq0.false)

-- no test is cited by its name here, so that another test is refused for what it does
pub returns : goal.returns
returns c = search (rules, stays)
