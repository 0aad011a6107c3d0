-- `propagation::inner::propagator::decrements` meets its contract. The invariant: what is left of the list, done to the slices now, is what was left of it at
-- the loop's start, done to those there; the slices are as they must be, and the first that is left has one support. The measure is what is left of the list.
-- Assumes nothing.
use mathlib.Core.Path.{◌≡◌, refl, sym, ◌∙◌}
use Prim.Native.Nat.{◌+◌, ◌<◌}
use native.Mathlib.Omega.{arith}
use lib.ListN.{get_or}
use Rattle.consistency.specs.Worklist.{place}
use Rattle.loops.proofs.LoopLaws.{each_turn, each-end}
use Rattle.adjacency.proofs.ListLaws.{all_below-at}
use Rattle.consistency.proofs.Keep.{safe-decrement}
use Rattle.propagation.proofs.LentLaws.{lent-safe, slot_small, going_start, going_on}
use Rattle.propagation.proofs.VisitLaws.{losing_at, loss_later, list_inside, last-possible, decrement-last, visited-from, decrements-each}
use Rattle.propagation.proofs.inner.propagator.decrements.Goals as goal
use Rattle.propagation.proofs.inner.propagator.decrements.Goals.{After-wide}

-- the pattern that a turn reads
read : (c : After-wide) → c.wide.result < c.args.count
read c =
    omega (arith, c.wide.ensures, all_below-at c.args.list.now c.requires.cell_lt_cells.2 c.loop-i.i c.loop-i-test.true)

-- it has one support
one : (c : After-wide) →
    let a = c.args in
    get_or c.loop-i.counts (place a.count a.cell c.wide.result a.d) 0 ≡ 1
one c =
    losing_at _ _ _ _ _ c.loop-i-test.true c.wide.ensures c.loop-i.invariant.2

pub overflow_mul-base : goal.overflow_mul-base
overflow_mul-base c =
    omega (arith, slot_small c.requires.lent c.requires.cell_lt_cells.0 c.requires.lent.some)

pub next_loss-i-requires : goal.next_loss-i-requires
next_loss-i-requires c =
    let record { lent = lent; alongside = _; cell_lt_cells = (hc, hd, below) } = c.requires in
    list_inside lent hc hd c.args.list.now below refl

pub loop-i-init : goal.loop-i-init
loop-i-init c =
    let record { lent = lent; alongside = (alongside, _, _); cell_lt_cells = (hc, hd, below) } = c.requires in
    let v = visited-from _ _ _ _ _ _ {X = Unit {0}} (λ u D x. x) tt hc hd _ _ 0 below lent c.next_loss-i.ensures in
    (refl, going_start v.lent alongside, v.losing)

pub remove_and_propose-next-requires : goal.remove_and_propose-next-requires
remove_and_propose-next-requires c =
    let record { lent = lent; alongside = (alongside, masked, lookups); cell_lt_cells = (hc, hd, below) } = c.requires in
    let (_, going, _) = c.loop-i.invariant in
    record { lent = going.lent; alongside = (going.alongside, masked, lookups); cell_lt_cells = (hc, read (goal.at.remove_and_propose-next-requires c).After-wide, last-possible going.lent hc hd (read (goal.at.remove_and_propose-next-requires c).After-wide) (one (goal.at.remove_and_propose-next-requires c).After-wide)) }

pub overflow_add-i : goal.overflow_add-i
overflow_add-i c =
    omega (arith, c.loop-i-test.true, c.ranges)

pub next_loss-i-requires-in-loop-i : goal.next_loss-i-requires-in-loop-i
next_loss-i-requires-in-loop-i c =
    let record { lent = _; alongside = _; cell_lt_cells = (hc, hd, below) } = c.requires in
    list_inside c.loop-i.invariant.1.lent hc hd c.args.list.now below c.remove_and_propose-next.auto.counts

pub loop-i-smaller : goal.loop-i-smaller
loop-i-smaller c =
    let list = c.args.list.now in
    omega (arith, c.loop-i-test.true, loss_later _ _ list _ (c.loop-i.i + 1) c.next_loss-i-in-loop-i.result c.next_loss-i-in-loop-i.ensures)

pub loop-i-preserved : goal.loop-i-preserved
loop-i-preserved c =
    let record { lent = _; alongside = _; cell_lt_cells = (hc, hd, below) } = c.requires in
    let (left, going, _) = c.loop-i.invariant in
    let step = decrement-last _ _ _ _ _ _ _ _ _ _ (one (goal.at.loop-i-preserved c).After-wide) c.remove_and_propose-next.ensures in
    let gone = going_on going step (safe-decrement _ _ _ _ _ _ _ _ hc hd (read (goal.at.loop-i-preserved c).After-wide) (lent-safe going.lent _)) (c.remove_and_propose-next.auto.domains, (c.remove_and_propose-next.auto.counts, (c.remove_and_propose-next.auto.pending, (c.remove_and_propose-next.auto.floats, (c.remove_and_propose-next.auto.marks, tt {0}))))) in
    let v = visited-from _ _ _ _ _ _ _ _ hc hd c.args.list.now _ (c.loop-i.i + 1) below gone.lent c.next_loss-i-in-loop-i.ensures in (
      v.same ∙ each_turn _ _ c.loop-i-test.true c.wide.ensures step left,
      going_on gone refl (lent-safe v.lent _) (refl, (c.next_loss-i-in-loop-i.auto.counts, (refl, (refl, (refl, tt {0}))))),
      v.losing,
    )

pub shape_of-domains : goal.shape_of-domains
shape_of-domains c = c.loop-i.invariant.1.domains

pub shape_of-counts : goal.shape_of-counts
shape_of-counts c =
    c.loop-i.invariant.1.counts ∙ c.next_loss-i.auto.counts

pub shape_of-pending : goal.shape_of-pending
shape_of-pending c = c.loop-i.invariant.1.pending

pub shape_of-floats : goal.shape_of-floats
shape_of-floats c = c.loop-i.invariant.1.floats

pub shape_of-marks : goal.shape_of-marks
shape_of-marks c = c.loop-i.invariant.1.marks

pub returns : goal.returns
returns c =
    let record { lent = lent; alongside = _; cell_lt_cells = (hc, hd, below) } = c.requires in
    let v = visited-from _ _ _ _ _ _ _ _ hc hd _ _ 0 below lent c.next_loss-i.ensures in
    each-end _ _ c.loop-i-test.false c.loop-i.invariant.0 ∙ v.same ∙ sym (decrements-each _ _ _ _ _ _)
