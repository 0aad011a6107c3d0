-- `collapse::inner::start::fill_floats` meets its contract. The invariant: all entries before i are so.
-- Assumes nothing.
use mathlib.Core.List.{◌++◌}
use mathlib.Core.Path.{ap, ◌∙◌}
use Prim.Native.Nat.{ℕ}
use native.Mathlib.Nat.{le_antisymm}
use native.Mathlib.Omega.{arith}
use lib.ListN.{replicate, drop}
use Rattle.loops.proofs.FillLaws.{filled_none, filled-length, filled_more}
use Rattle.collapse.proofs.inner.start.fill_floats.Goals as goal

pub loop-i-init : goal.loop-i-init
loop-i-init c = (filled_none _ _, omega arith)

pub offset_bounds-floats-i : goal.offset_bounds-floats-i
offset_bounds-floats-i c = let (F, _) = c.loop-i.invariant in omega (arith, filled-length _ F, c.requires)

pub bounds-floats-i : goal.bounds-floats-i
bounds-floats-i c = let (F, _) = c.loop-i.invariant in omega (arith, filled-length _ F, c.requires)

pub overflow_add-i : goal.overflow_add-i
overflow_add-i c = let (F, _) = c.loop-i.invariant in omega (arith, filled-length _ F, c.requires)

pub loop-i-preserved : goal.loop-i-preserved
loop-i-preserved c = let (F, _) = c.loop-i.invariant in (filled_more _ F (omega (arith, c.requires)), omega arith)

pub shape_of-floats : goal.shape_of-floats
shape_of-floats c = let (F, _) = c.loop-i.invariant in filled-length _ F

pub returns : goal.returns
returns c =
    let (F, h) = c.loop-i.invariant in
    F.is ∙ ap (λ (n : ℕ). replicate n c.args.value ++ drop n c.args.floats.now) (le_antisymm h c.loop-i-test.false)
