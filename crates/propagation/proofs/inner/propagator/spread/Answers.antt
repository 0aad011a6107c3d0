-- `propagation::inner::propagator::spread` meets its contract. The invariant: the directions that are left, done to the slices now, are all four,
-- done to those at entry; and the slices are as they must be. The measure is how many directions are left.
-- Assumes nothing.
use mathlib.Core.Path.{refl, sym, ◌∙◌}
use Prim.Native.Nat.{◌<◌}
use native.Mathlib.Omega.{arith}
use Rattle.loops.proofs.LoopLaws.{steps-turn, steps-end}
use Rattle.propagation.proofs.LentLaws.{lent-safe, going_start, going_on}
use Rattle.propagation.proofs.PropagatorLaws.{spread-steps, ground_spread_in}
use Rattle.propagation.proofs.inner.propagator.spread.Goals as goal
use Rattle.propagation.proofs.inner.propagator.spread.Goals.{In-loop-d}

-- the direction of a turn
below : (c : In-loop-d) → c.loop-d.d < 4
below c = omega (arith, c.loop-d-test.true)

pub loop-d-init : goal.loop-d-init
loop-d-init c =
    let record { lent = lent; ground = _; alongside = (alongside, _, _) } = c.requires in
    (refl, going_start lent alongside)

pub spread_in-next-requires : goal.spread_in-next-requires
spread_in-next-requires c =
    let record { lent = lent; ground = (ground, hc, hp); alongside = (alongside, masked, lookups) } = c.requires in
    let going = c.loop-d.invariant.1 in
    record { lent = going.lent; ground = (ground, hc, hp, below (goal.at.spread_in-next-requires c).In-loop-d); alongside = (going.alongside, masked, lookups) }

pub overflow_add-d : goal.overflow_add-d
overflow_add-d c =
    omega (arith, below (goal.at.overflow_add-d c).In-loop-d)

pub loop-d-smaller : goal.loop-d-smaller
loop-d-smaller c =
    omega (arith, below (goal.at.loop-d-smaller c).In-loop-d)

pub loop-d-preserved : goal.loop-d-preserved
loop-d-preserved c =
    let record { lent = lent; ground = (ground, hc, hp); alongside = alongside } = c.requires in
    let (left, going) = c.loop-d.invariant in (
      steps-turn _ _ (below (goal.at.loop-d-preserved c).In-loop-d) c.spread_in-next.ensures left,
      going_on going c.spread_in-next.ensures (ground_spread_in ground _ hc hp (below (goal.at.loop-d-preserved c).In-loop-d) (lent-safe going.lent _)) (c.spread_in-next.auto.domains, (c.spread_in-next.auto.counts, (c.spread_in-next.auto.pending, (c.spread_in-next.auto.floats, (c.spread_in-next.auto.marks, tt {0}))))),
    )

pub shape_of-domains : goal.shape_of-domains
shape_of-domains c = c.loop-d.invariant.1.domains

pub shape_of-counts : goal.shape_of-counts
shape_of-counts c = c.loop-d.invariant.1.counts

pub shape_of-pending : goal.shape_of-pending
shape_of-pending c = c.loop-d.invariant.1.pending

pub shape_of-floats : goal.shape_of-floats
shape_of-floats c = c.loop-d.invariant.1.floats

pub shape_of-marks : goal.shape_of-marks
shape_of-marks c = c.loop-d.invariant.1.marks

pub returns : goal.returns
returns c = steps-end _ _ c.loop-d-test.false c.loop-d.invariant.0 ∙ sym (spread-steps _ _ _ _ _)
