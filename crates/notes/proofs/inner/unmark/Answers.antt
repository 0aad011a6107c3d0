-- `notes::inner::unmark` meets its contract. The invariant: what is left to clear leaves what was to be left, and the blocks' marks stay.
-- The measure is what is left to clear.
-- Assumes nothing.
use mathlib.Core.Path.{refl, sym, ◌∙◌}
use Prim.Native.Nat.{◌*◌, ◌≤◌}
use native.Mathlib.Omega.{arith}
use lib.ListN.{length, length-set}
use lib.Seq.{drop-set-lt}
use Rattle.notes.proofs.BesideLaws.{unmarked-turn, unmarked-end}
use Rattle.notes.proofs.inner.unmark.Goals as goal

pub loop-i-init : goal.loop-i-init
loop-i-init c = (refl, (λ floats. refl), refl)

pub loop-i-preserved : goal.loop-i-preserved
loop-i-preserved c =
    let (long, left, back) = c.loop-i.invariant in
    let room : 2 * c.args.cells ≤ length c.loop-i.marks = omega (arith, c.requires, long) in (
      simp length-set long,
      (λ floats. unmarked-turn c.args.cells c.loop-i.marks room floats c.loop-i-test.true ∙ left floats),
      drop-set-lt _ c.loop-i.marks _ 0 c.loop-i-test.true ∙ back,
    )

pub shape_of-marks : goal.shape_of-marks
shape_of-marks c = c.loop-i.invariant.0

pub returns : goal.returns
returns c =
    let (long, left, back) = c.loop-i.invariant in
    let room : 2 * c.args.cells ≤ length c.loop-i.marks = omega (arith, c.requires, long) in
    ((λ floats. sym (unmarked-end c.args.cells c.loop-i.marks room floats c.loop-i-test.false) ∙ left floats), back)
