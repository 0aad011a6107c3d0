-- `trace_c::lay` meets its contract: a forbid of the grid leaves the slices as the next step must find them, and any other ends the steps.
-- Assumes nothing.
use native.Mathlib.Omega.{arith}
use Rattle.course.specs.Called.{memory}
use Rattle.run.proofs.StandingLaws.{room_same}
use Rattle.trace_c.proofs.GoingLaws.{laid_going}
use Rattle.trace_c.proofs.lay.Goals as goal

pub returns : goal.returns
returns c =
    let m = memory c.args.domains.now c.args.counts.now c.args.pending.now c.args.floats.now c.args.marks.now in
    laid_going _ _ m c.requires _ _ c.lay_one.ensures (omega (arith, c.if-domains-cell.false)) (omega (arith, c.if-count-pattern.false)) (room_same m (c.lay_one.auto.domains, (c.lay_one.auto.counts, (c.lay_one.auto.pending, (c.lay_one.auto.floats, (c.lay_one.auto.marks, tt {0}))))))
