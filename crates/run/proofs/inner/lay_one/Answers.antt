-- `run::inner::lay_one` meets its contract: a pile that emptied no cell has nothing pending.
-- Assumes nothing.
use Rattle.course.specs.Called.{memory}
use Rattle.forbids.specs.Forbids.{asking}
use Rattle.collapse.proofs.StepLaws.{four-few, sums-front, lookups_laid}
use Rattle.run.proofs.StandingLaws.{standing-lent, standing_ground, standing-alongside, lay-stage}
use Rattle.run.proofs.inner.lay_one.Goals as goal

pub four_sums-sums-requires : goal.four_sums-sums-requires
four_sums-sums-requires c =
    four-few c.requires.0.laid.lawful.accepted.few c.requires.0.laid.lawful.weighed

pub sixteens-requires : goal.sixteens-requires
sixteens-requires c = c.requires.0.laid.lawful.accepted.few

pub slice_bounds-sums-end : goal.slice_bounds-sums-end
slice_bounds-sums-end c =
    (sums-front c.four_sums-sums.result c.requires.0.laid.lawful.accepted.few c.four_sums-sums.ensures.0 c.sixteens.ensures).0

pub slice_bounds-lay-end-2 : goal.slice_bounds-lay-end-2
slice_bounds-lay-end-2 c =
    (sums-front c.four_sums-sums.result c.requires.0.laid.lawful.accepted.few c.four_sums-sums.ensures.0 c.sixteens.ensures).1

pub lay-pile-requires : goal.lay-pile-requires
lay-pile-requires c =
    let (S, hc, hp) = c.requires in
    record { lent = standing-lent S; ground = standing_ground S; alongside = (standing-alongside S, c.weighted_mask.ensures, lookups_laid c.four_sums-sums.result S.laid.lawful.weighed c.logs-logs.ensures c.four_sums-sums.ensures c.sixteens.ensures); cell_in_bounds = (hc, hp) }

pub returns : goal.returns
returns c =
    let (S, hc, hp) = c.requires in
    let l = c.lay-pile.new in
    lay-stage S (asking c.args.cell c.args.pattern c.args.keep) hc hp (memory l.domains l.counts l.pending l.floats l.marks) c.lay-pile.result c.lay-pile.ensures.0
