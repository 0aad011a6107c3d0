-- `collapse::inner::turns::take_turns` meets its contract. The invariant: the slices stand for a state that the run reaches. The measure: the
-- open cells.
-- Assumes nothing.
use Rattle.propagation.proofs.LentLaws.{memory}
use Rattle.collapse.proofs.StepLaws.{four-few, sums-front, lookups_laid, ground_at}
use Rattle.collapse.proofs.TurnsLaws.{turns-start, turns-roomy, turns_sightly, turns-lent, turns-over, turns-less, turns-again}
use Rattle.collapse.proofs.inner.turns.take_turns.Goals as goal

pub four_sums-sums-requires : goal.four_sums-sums-requires
four_sums-sums-requires c =
    four-few c.requires.lent.patterns c.requires.weighed.0

pub sixteens-end-requires : goal.sixteens-end-requires
sixteens-end-requires c = c.requires.lent.patterns

pub loop-stop-init : goal.loop-stop-init
loop-stop-init c =
    turns-start c.requires.laid c.requires.marks_len.1

pub slice_bounds-sums-end : goal.slice_bounds-sums-end
slice_bounds-sums-end c =
    (sums-front c.four_sums-sums.result c.requires.lent.patterns c.four_sums-sums.ensures.0 c.sixteens-end.ensures).0

pub slice_bounds-advance-end-in-loop-stop : goal.slice_bounds-advance-end-in-loop-stop
slice_bounds-advance-end-in-loop-stop c =
    (sums-front c.four_sums-sums.result c.requires.lent.patterns c.four_sums-sums.ensures.0 c.sixteens-end.ensures).1

pub advance-requires : goal.advance-requires
advance-requires c =
    let record { lent = lent; ground = ground; weighed = (weighed, roomy, masked); marks_len = (long, _); laid = _ } = c.requires in
    let T = c.loop-stop.invariant in
    record { lent = turns-lent T ground.all lent; ground = ground_at T.kept.0 ground; weighed = (weighed, turns-roomy T roomy, masked, lookups_laid c.four_sums-sums.result weighed c.logs-logs.ensures c.four_sums-sums.ensures c.sixteens-end.ensures); sightly = turns_sightly T long }

pub loop-stop-smaller : goal.loop-stop-smaller
loop-stop-smaller c =
    let (step, is, turned, _) = c.advance.ensures in
    let l = c.advance.new in
    turns-less c.loop-stop.invariant (memory l.domains l.counts l.pending l.floats l.marks) step turned is c.in-Continue.is

pub loop-stop-preserved : goal.loop-stop-preserved
loop-stop-preserved c =
    let (step, is, turned, found) = c.advance.ensures in
    let l = c.advance.new in
    turns-again c.loop-stop.invariant (memory l.domains l.counts l.pending l.floats l.marks) step turned is c.in-Continue.is
    (c.advance.auto.domains, (c.advance.auto.counts, (c.advance.auto.pending, (c.advance.auto.floats, (c.advance.auto.marks, tt {0}))))) found

pub returns-in-Break : goal.returns-in-Break
returns-in-Break c =
    let (step, is, turned, _) = c.advance.ensures in
    let l = c.advance.new in
    turns-over c.loop-stop.invariant (memory l.domains l.counts l.pending l.floats l.marks) step turned is c.in-Break.is
