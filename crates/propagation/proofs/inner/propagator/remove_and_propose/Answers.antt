-- `propagation::inner::propagator::remove_and_propose` meets its contract: a removal in propagation is a removal that then proposes and touches its block.
-- Assumes nothing.
use mathlib.Core.Path.{refl}
use native.Mathlib.Omega.{arith}
use Rattle.propagation.proofs.LentLaws.{alongside-after}
use Rattle.propagation.proofs.WatchingLaws.{remove-proposed}
use Rattle.propagation.proofs.PropagatorLaws.{fit-remove}
use Rattle.propagation.proofs.inner.propagator.remove_and_propose.Goals as goal

pub remove-next-requires : goal.remove-next-requires
remove-next-requires c =
    let record { lent = lent; alongside = (alongside, _, lookups); cell_lt_cells = which } = c.requires in
    rw lent.safe.fit.sized (record { lent = lent; weighed = (alongside.weighed, λ p h. (alongside.roomy p h).valued, lookups.logs_lent); cell_in_bounds = which })

pub propose-requires : goal.propose-requires
propose-requires c =
    let record { lent = lent; alongside = (alongside, masked, lookups); cell_lt_cells = (hc, hp, h) } = c.requires in
    let fit = fit-remove lent _ _ hc hp h (c.remove-next.ensures c.args.marks.now) in
    record { alongside = (alongside-after alongside c.remove-next.auto.floats refl, masked, lookups); count_bound = (lent.patterns, hc, hp, fit.words c.args.cell) }

pub touch-requires : goal.touch-requires
touch-requires c =
    omega (arith, c.requires.alongside.0.marked, c.requires.cell_lt_cells.0, c.propose.auto.marks)

pub returns : goal.returns
returns c =
    remove-proposed _ _ _ _ _ _ (c.remove-next.ensures c.args.marks.now) c.propose.ensures c.touch.ensures
