-- `trace_c::start` meets its contract: a run that begins may go on, and so it may after the forbids.
-- Assumes nothing.
use Rattle.course.specs.Called.{memory}
use Rattle.run.proofs.StandingLaws.{room_same}
use Rattle.trace_c.proofs.GoingLaws.{begun_going}
use Rattle.trace_c.proofs.start.Goals as goal

pub lay_all-requires : goal.lay_all-requires
lay_all-requires c =
    let m = memory c.args.domains.now c.args.counts.now c.args.pending.now c.args.floats.now c.args.marks.now in
    begun_going _ m _ c.in-Ok.ensures (room_same m (c.begin.auto.domains, (c.begin.auto.counts, (c.begin.auto.pending, (c.begin.auto.floats, (c.begin.auto.marks, tt {0}))))))
