-- `propagation::inner::propagator::pop` meets its contract: the removal on top of the pile is of a cell and a pattern.
-- Assumes nothing.
use native.Mathlib.Omega.{arith}
use Rattle.propagation.proofs.LentLaws.{pile_within, pile_small, top-cell, top-pattern, lent-below_top}
use Rattle.propagation.proofs.PropagatorLaws.{spread-slot}
use Rattle.propagation.proofs.inner.propagator.pop.Goals as goal

pub offset_bounds-pending-top : goal.offset_bounds-pending-top
offset_bounds-pending-top c = omega (arith, pile_small c.requires.lent)

pub bounds-pending-top : goal.bounds-pending-top
bounds-pending-top c =
    omega (arith, pile_within c.requires.lent, c.requires.ground.1)

pub spread-requires : goal.spread-requires
spread-requires c =
    let record { lent = lent; ground = (ground, some); alongside = alongside } = c.requires in
    record { lent = lent-below_top lent some; ground = (ground, rw c.slot-u.ensures (top-cell lent some), rw c.slot-u.ensures (top-pattern lent some)); alongside = alongside }

pub returns : goal.returns
returns c =
    spread-slot _ _ _ _ _ c.slot-u.ensures c.spread.ensures
