-- `propagation::inner::propagator::spread_in` meets its contract, by whether there is a neighbour.
-- Assumes nothing.
use Rattle.propagation.proofs.PropagatorLaws.{cell-inside, spread_in-cell, spread_in-edge}
use Rattle.propagation.proofs.inner.propagator.spread_in.Goals as goal

pub decrements-requires : goal.decrements-requires
decrements-requires c =
    let record { lent = lent; ground = (ground, hc, hp, hd); alongside = alongside } = c.requires in
    record { lent = lent; alongside = alongside; cell_lt_cells = (cell-inside ground hc hd c.neighbour_of.ensures c.in-Some.is, hd, rw c.list_of.ensures (ground.accepted.listed.below _ _ hp hd)) }

pub returns-in-Some : goal.returns-in-Some
returns-in-Some c =
    spread_in-cell _ _ _ _ _ _ _ c.neighbour_of.ensures c.in-Some.is c.list_of.ensures c.decrements.ensures

pub returns-in-None : goal.returns-in-None
returns-in-None c = spread_in-edge _ _ _ _ _ _ _ c.neighbour_of.ensures c.in-None.is
