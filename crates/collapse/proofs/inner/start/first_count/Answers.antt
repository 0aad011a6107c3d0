-- `collapse::inner::start::first_count` meets its contract: the ones of the weighted patterns' word are those patterns.
-- Assumes nothing.
use mathlib.Core.Path.{◌∙◌}
use native.Mathlib.Omega.{arith}
use Rattle.words.proofs.CountLaws.{many-le}
use Rattle.collapse.proofs.StartLaws.{first_count-some, first_count_none}
use Rattle.collapse.proofs.inner.start.first_count.Goals as goal

pub narrow-requires : goal.narrow-requires
narrow-requires c = omega (arith, c.count_ones-many.ensures, many-le 64 c.args.weighted)

pub returns-then-many-ge2 : goal.returns-then-many-ge2
returns-then-many-ge2 c =
    c.narrow.ensures ∙ first_count-some c.args.weights.now c.requires.0 c.requires.1 c.count_ones-many.ensures c.if-many-ge2.true

pub returns : goal.returns
returns c =
    first_count_none c.args.weights.now c.requires.0 c.requires.1 c.count_ones-many.ensures c.if-many-ge2.false
