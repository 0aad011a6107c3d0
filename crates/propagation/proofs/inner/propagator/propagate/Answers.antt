-- `propagation::inner::propagator::propagate` meets its contract. The invariant: the slices now lead to the same end as those at the loop's start, and are as they
-- must be. The measure: the removals pending, and one for each pattern possible.
-- Assumes nothing.
use mathlib.Core.Path.{refl, sym, ◌∙◌}
use native.Mathlib.Omega.{arith}
use Rattle.propagation.proofs.LentLaws.{pending-length, alongside-after, piled, going_start, going_on}
use Rattle.propagation.proofs.PropagatorLaws.{unfinished_some, turn-safe, turn-less, propagated-turn, propagated-end}
use Rattle.notes.proofs.WatchedLaws.{watched-turn}
use Rattle.propagation.proofs.WatchingLaws.{watched-unmarked, viewed-propagated, watched-propagated}
use Rattle.propagation.proofs.inner.propagator.propagate.Goals as goal

pub unmark-requires : goal.unmark-requires
unmark-requires c = omega (arith, c.requires.alongside.0.marked)

pub loop-top-init : goal.loop-top-init
loop-top-init c =
    let record { lent = lent; ground = _; alongside = (alongside, _, _) } = c.requires in
    (refl, going_start lent (alongside-after alongside refl c.unmark.auto.marks))

pub pop-next-requires : goal.pop-next-requires
pop-next-requires c =
    let record { lent = lent; ground = ground; alongside = (alongside, masked, lookups) } = c.requires in
    let going = c.loop-top.invariant.1 in
    record { lent = going.lent; ground = (ground, unfinished_some (piled c.loop-top.top c.loop-top.empty) c.loop-top-test.true); alongside = (going.alongside, masked, lookups) }

pub loop-top-smaller : goal.loop-top-smaller
loop-top-smaller c =
    let ground = c.requires.ground in
    let going = c.loop-top.invariant.1 in
    omega (
      arith,
      turn-less ground _ going.lent _ c.loop-top-test.true c.pop-next.ensures,
      pending-length c.args.count c.pop-next.new.pending c.pop-next.result.top,
    )

pub loop-top-preserved : goal.loop-top-preserved
loop-top-preserved c =
    let ground = c.requires.ground in
    let (left, going) = c.loop-top.invariant in (
      propagated-turn ground _ going.lent _ c.loop-top-test.true c.pop-next.ensures ∙ left,
      going_on going refl (turn-safe ground _ going.lent _ c.loop-top-test.true c.pop-next.ensures) (c.pop-next.auto.domains, (c.pop-next.auto.counts, (c.pop-next.auto.pending, (c.pop-next.auto.floats, (c.pop-next.auto.marks, tt {0}))))),
    )

pub shape_of-domains : goal.shape_of-domains
shape_of-domains c = c.loop-top.invariant.1.domains

pub shape_of-counts : goal.shape_of-counts
shape_of-counts c = c.loop-top.invariant.1.counts

pub shape_of-pending : goal.shape_of-pending
shape_of-pending c = c.loop-top.invariant.1.pending

pub shape_of-floats : goal.shape_of-floats
shape_of-floats c = c.loop-top.invariant.1.floats

pub shape_of-marks : goal.shape_of-marks
shape_of-marks c =
    c.loop-top.invariant.1.marks ∙ c.unmark.auto.marks

pub returns : goal.returns
returns c =
    let record { lent = lent; ground = ground; alongside = (alongside, _, _) } = c.requires in
    let cleared = c.unmark in
    let (left, going) = c.loop-top.invariant in
    let end = sym (propagated-end ground _ going.lent _ c.loop-top-test.false) ∙ left in
    let (front, back) = cleared.ensures in (
      viewed-propagated ground _ _ lent _ _ end (front c.args.floats.now),
      watched-turn (watched-unmarked _ _ _ cleared.auto.marks (omega (arith, alongside.marked)) front back _ _)
          (watched-propagated ground _ _ lent _ _ end (omega (arith, alongside.marked, cleared.auto.marks))),
    )
