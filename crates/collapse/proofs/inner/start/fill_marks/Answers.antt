-- `collapse::inner::start::fill_marks` meets its contract. The invariant: all entries before i are so.
-- Assumes nothing.
use mathlib.Core.List.{◌++◌}
use mathlib.Core.Path.{ap, ◌∙◌}
use Prim.Native.Nat.{ℕ}
use native.Mathlib.Nat.{le_antisymm}
use native.Mathlib.Omega.{arith}
use lib.ListN.{replicate, drop}
use Rattle.loops.proofs.FillLaws.{filled_none, filled-length, filled_more}
use Rattle.collapse.proofs.inner.start.fill_marks.Goals as goal

pub loop-i-init : goal.loop-i-init
loop-i-init c = (filled_none _ _, omega arith)

pub bounds-marks-i : goal.bounds-marks-i
bounds-marks-i c = let (F, _) = c.loop-i.invariant in omega (arith, filled-length _ F, c.requires)

pub overflow_add-i : goal.overflow_add-i
overflow_add-i c = let (F, _) = c.loop-i.invariant in omega (arith, filled-length _ F, c.requires)

pub loop-i-preserved : goal.loop-i-preserved
loop-i-preserved c = let (F, _) = c.loop-i.invariant in (filled_more _ F (omega (arith, c.requires)), omega arith)

pub shape_of-marks : goal.shape_of-marks
shape_of-marks c = let (F, _) = c.loop-i.invariant in filled-length _ F

pub returns : goal.returns
returns c =
    let (F, h) = c.loop-i.invariant in
    F.is ∙ ap (λ (n : ℕ). replicate n c.args.number ++ drop n c.args.marks.now) (le_antisymm h c.loop-i-test.false)
