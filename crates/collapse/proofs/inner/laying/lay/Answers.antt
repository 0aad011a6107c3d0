-- `collapse::inner::laying::lay` meets its contract: what is struck is propagated, and the block of its cell is touched first.
-- Assumes nothing.
use mathlib.Core.Path.{◌∙◌}
use native.Mathlib.Omega.{arith}
use lib.ListN.{length}
use Rattle.adjacency.specs.Tables.{table}
use Rattle.grid.specs.Grid.{grid}
use Rattle.forbids.specs.declared.Forbid.{Forbid}
use Rattle.course.specs.Run.{Given, given}
use Rattle.forbids.specs.Forbids.{asking}
use Rattle.collapse.proofs.StepLaws.{struck_lent, ground_at, alongside-at}
use Rattle.collapse.proofs.WatchLaws.{block-below, laid_in, laid-watched}
use Rattle.collapse.proofs.inner.laying.lay.Goals as goal
use Rattle.collapse.proofs.inner.laying.lay.Goals.{Start}

-- what the forbid is laid on, and the forbid
abbrev input : Start → Given
input s = given (table s.args.count s.args.offsets.now s.args.ids.now) s.args.weights.now (grid s.args.width s.args.height s.args.mode) s.args.noise.now

abbrev asks : Start → Forbid
asks s = asking s.args.cell s.args.pattern s.args.keep

pub touch-requires : goal.touch-requires
touch-requires c =
    omega (arith, c.requires.alongside.0.marked, block-below (length c.args.domains.now) c.args.cell c.requires.cell_in_bounds.0)

pub strike-pile-requires : goal.strike-pile-requires
strike-pile-requires c =
    let record { lent = lent; ground = _; alongside = (room, _, lookups); cell_in_bounds = there } = c.requires in
    record { lent = lent; weighed = (room.weighed, λ p h. (room.roomy p h).valued, lookups.logs_lent); cell_in_bounds = there }

pub propagate-requires : goal.propagate-requires
propagate-requires c =
    let touched = c.touch in
    let record { lent = lent; ground = ground; alongside = (room, masked, lookups); cell_in_bounds = (hc, hp) } = c.requires in
    record { lent = struck_lent lent hc hp _ _ _ (c.strike-pile.ensures c.args.marks.now) c.strike-pile.auto.domains c.strike-pile.auto.pending; ground = ground_at c.strike-pile.auto.domains ground; alongside = (alongside-at {marks' = touched.new.marks} {floats' = c.strike-pile.new.floats} c.strike-pile.auto.domains c.strike-pile.auto.floats touched.auto.marks room, masked, lookups) }

pub shape_of-domains : goal.shape_of-domains
shape_of-domains c = c.propagate.auto.domains ∙ c.strike-pile.auto.domains

pub shape_of-counts : goal.shape_of-counts
shape_of-counts c = c.propagate.auto.counts ∙ c.strike-pile.auto.counts

pub shape_of-pending : goal.shape_of-pending
shape_of-pending c = c.propagate.auto.pending ∙ c.strike-pile.auto.pending

pub shape_of-floats : goal.shape_of-floats
shape_of-floats c = c.propagate.auto.floats ∙ c.strike-pile.auto.floats

pub shape_of-marks : goal.shape_of-marks
shape_of-marks c = c.propagate.auto.marks ∙ c.touch.auto.marks

pub returns : goal.returns
returns c =
    let called = c.propagate in
    let struck = c.strike-pile in
    let touched = c.touch in
    let a = c.args in
    let record { lent = _; ground = ground; alongside = (room, _, _); cell_in_bounds = (hc, _) } = c.requires in
    let d = struck.auto.domains in
    let k = struck.new in
    let l = called.new in
    let marks = touched.new.marks in (
      laid_in (input (goal.at.returns c).Start) (asks (goal.at.returns c).Start) a.domains.now a.counts.now a.pending.now a.floats.now a.marks.now k.domains k.counts k.pending struck.result k.floats marks hc d touched.ensures struck.ensures
          l.domains l.counts l.pending called.result l.floats l.marks ground.all called.auto.domains called.ensures.0,
      laid-watched (input (goal.at.returns c).Start) (asks (goal.at.returns c).Start) a.domains.now a.counts.now a.pending.now a.floats.now a.marks.now k.domains k.counts k.pending struck.result k.floats marks hc d touched.ensures struck.ensures
          l.domains l.floats l.marks room.marked called.ensures.1,
    )
