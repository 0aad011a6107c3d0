-- `propagation::inner::propagator::next_loss` meets its contract. The invariant: what is left of the list, visited with the counts now, comes to what the list
-- from the first entry on comes to, visited with those at entry. The measure is what is left of the list.
-- Assumes nothing.
use mathlib.Core.Path.{refl, ◌∙◌}
use Prim.Native.Nat.{◌+◌, ◌*◌, ◌<◌}
use native.Mathlib.Omega.{arith}
use lib.ListN.{length}
use Rattle.propagation.proofs.VisitLaws.{loss_turn, loss_stop, loss_end}
use Rattle.propagation.proofs.inner.propagator.next_loss.Goals as goal
use Rattle.propagation.proofs.inner.propagator.next_loss.Goals.{After-wide}

-- the count that a turn visits
inside : (c : After-wide) →
    (c.args.base + c.wide.result) * 4 + c.args.d < length c.args.counts.now
inside c =
    omega (arith, c.wide.ensures, c.requires c.loop-i.i c.loop-i-test.true)

pub loop-i-init : goal.loop-i-init
loop-i-init c = (refl, refl)

pub bounds-list-i : goal.bounds-list-i
bounds-list-i c = omega (arith, c.loop-i-test.true)

pub overflow_add-base : goal.overflow_add-base
overflow_add-base c = omega (arith, inside c, c.ranges)

pub overflow_mul-base : goal.overflow_mul-base
overflow_mul-base c = omega (arith, inside c, c.ranges)

pub overflow_add-base-in-loop-i : goal.overflow_add-base-in-loop-i
overflow_add-base-in-loop-i c = omega (arith, inside c, c.ranges)

pub try_decrement-requires : goal.try_decrement-requires
try_decrement-requires c = omega (arith, inside c, c.loop-i.invariant.1)

pub shape_of-counts-then-try_decrement : goal.shape_of-counts-then-try_decrement
shape_of-counts-then-try_decrement c =
    c.try_decrement.auto.counts ∙ c.loop-i.invariant.1

pub returns-then-try_decrement : goal.returns-then-try_decrement
returns-then-try_decrement c =
    loss_stop _ _ _ _ c.loop-i-test.true c.wide.ensures c.try_decrement.ensures c.loop-i.invariant.0 c.if-try_decrement.true

pub overflow_add-i : goal.overflow_add-i
overflow_add-i c =
    omega (arith, c.loop-i-test.true, c.ranges)

pub loop-i-smaller : goal.loop-i-smaller
loop-i-smaller c = omega (arith, c.loop-i-test.true)

pub loop-i-preserved : goal.loop-i-preserved
loop-i-preserved c =
    let (left, long) = c.loop-i.invariant in (
      loss_turn _ _ _ _ c.loop-i-test.true c.wide.ensures c.try_decrement.ensures left c.if-try_decrement.false,
      c.try_decrement.auto.counts ∙ long,
    )

pub shape_of-counts : goal.shape_of-counts
shape_of-counts c = c.loop-i.invariant.1

pub returns : goal.returns
returns c = loss_end _ _ _ _ c.loop-i-test.false c.loop-i.invariant.0
