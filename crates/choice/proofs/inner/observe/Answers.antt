-- `choice::inner::observe` meets its contract: after y blocks the best is that of their cells, and their marks are what a look gives.
-- Assumes nothing.
use native.Mathlib.Omega.{arith}
use Rattle.choice.proofs.WalkLaws.{upto-start, walk_lengths, walk-fresh, walk_inside, walk-long, walk_turn, walk_end}
use Rattle.choice.proofs.inner.observe.Goals as goal

pub loop-y-init : goal.loop-y-init
loop-y-init c = upto-start _ _ _ c.requires.fresh

pub overflow_mul-cells : goal.overflow_mul-cells
overflow_mul-cells c = omega (arith, c.loop-y.invariant.some, c.requires.lengths.marked)

pub overflow_add-cells : goal.overflow_add-cells
overflow_add-cells c = omega (arith, c.loop-y.invariant.some, c.requires.lengths.marked)

pub renew-mark-requires : goal.renew-mark-requires
renew-mark-requires c =
    let each = c.requires.lengths in
    record { lengths = (walk_lengths each c.loop-y.invariant, omega (arith, c.loop-y.invariant.long, each.marked, c.loop-y-test.true)); fresh = walk-fresh each c.loop-y.invariant }

pub overflow_mul-y : goal.overflow_mul-y
overflow_mul-y c =
    omega (arith, c.loop-y.invariant.long, c.requires.lengths.marked, c.loop-y-test.true)

pub held-best-requires : goal.held-best-requires
held-best-requires c =
    let test = c.loop-y-test.true in
    let each = c.requires.lengths in
    let seen = c.renew-mark.ensures in
    (each.noises, each.values, omega (arith, walk-long each c.loop-y.invariant test seen, each.marked), c.loop-y.invariant.low, walk_inside each c.loop-y.invariant test seen)

pub overflow_add-y : goal.overflow_add-y
overflow_add-y c = omega (arith, c.loop-y.invariant.long, c.loop-y-test.true)

pub loop-y-smaller : goal.loop-y-smaller
loop-y-smaller c = omega (arith, c.loop-y.invariant.long, c.loop-y-test.true)

pub loop-y-preserved : goal.loop-y-preserved
loop-y-preserved c =
    walk_turn c.requires.lengths c.loop-y.invariant c.loop-y-test.true c.renew-mark.ensures c.requires.numbers c.held-best.ensures

pub told-requires : goal.told-requires
told-requires c =
    let each = c.requires.lengths in
    (each.noises, each.values, omega (arith, c.loop-y.invariant.long, each.marked), c.loop-y.invariant.low)

pub shape_of-marks : goal.shape_of-marks
shape_of-marks c = c.loop-y.invariant.long

pub returns : goal.returns
returns c =
    walk_end c.requires.lengths c.loop-y.invariant c.loop-y-test.false c.told.ensures
