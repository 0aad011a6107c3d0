-- `collapse::inner::start::first_entropy` meets its contract: the whole weight is not 0 where two patterns have weight.
-- Assumes nothing.
use native.Mathlib.Omega.{arith}
use Rattle.course.proofs.FirstLaws.{weight-some}
use Rattle.collapse.proofs.StartLaws.{first_entropy_none, first_entropy-some}
use Rattle.collapse.proofs.inner.start.first_entropy.Goals as goal

pub returns-then-first_count-eq0 : goal.returns-then-first_count-eq0
returns-then-first_count-eq0 c = first_entropy_none c.args.weights.now c.first_count.ensures c.if-first_count-eq0.true

pub entropy_from-requires : goal.entropy_from-requires
entropy_from-requires c =
    let (front, _, _, whole, reach, _) = c.requires in
    (front, omega (arith, whole, weight-some c.args.weights.now c.first_count.ensures c.if-first_count-eq0.false), reach)

pub returns : goal.returns
returns c =
    let (_, _, _, whole, _, v) = c.requires in
    first_entropy-some c.args.weights.now c.first_count.ensures c.if-first_count-eq0.false whole v c.entropy_from.ensures
