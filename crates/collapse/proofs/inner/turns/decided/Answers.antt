-- `collapse::inner::turns::decided` meets its contract. The invariant: every cell that is left has one pattern exactly where every cell has.
-- Assumes nothing.
use native.Mathlib.Omega.{arith}
use Rattle.collapse.proofs.StepLaws.{decided-turn, decided-stop, decided-end}
use Rattle.collapse.proofs.inner.turns.decided.Goals as goal

pub offset_bounds-domains-c : goal.offset_bounds-domains-c
offset_bounds-domains-c c = omega (arith, c.loop-c-test.true, c.well_formed.0)

pub returns-then-count_ones-ne1 : goal.returns-then-count_ones-ne1
returns-then-count_ones-ne1 c = decided-stop _ c.loop-c-test.true c.count_ones.ensures c.if-count_ones-ne1.true c.loop-c.invariant

pub overflow_add-c : goal.overflow_add-c
overflow_add-c c = omega (arith, c.loop-c-test.true, c.well_formed.0)

pub loop-c-smaller : goal.loop-c-smaller
loop-c-smaller c = omega (arith, c.loop-c-test.true)

pub loop-c-preserved : goal.loop-c-preserved
loop-c-preserved c = decided-turn _ c.loop-c-test.true c.count_ones.ensures c.if-count_ones-ne1.false c.loop-c.invariant

pub returns : goal.returns
returns c = decided-end _ c.loop-c-test.false c.loop-c.invariant
