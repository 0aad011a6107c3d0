-- `collapse::inner::start::begin_floats` meets its contract: as many logarithms are laid out as the whole weight, or all.
-- Assumes nothing.
use mathlib.Core.Path.{◌≡◌, sym, ap, ◌∙◌}
use native.Mathlib.Omega.{arith}
use Rattle.words.specs.Words.{full}
use Rattle.adjacency.specs.Weights.{whole_weight}
use Rattle.words.proofs.BitLaws.{full-lt}
use Rattle.adjacency.proofs.WeightLaws.{weighed-bounded}
use Rattle.logarithms.proofs.LogLaws.{logs-long, logs-front}
use Rattle.collapse.proofs.StepLaws.{four-few}
use Rattle.collapse.proofs.StartLaws.{sum-whole}
use Rattle.collapse.proofs.inner.start.begin_floats.Goals as goal
use Rattle.collapse.proofs.inner.start.begin_floats.Goals.{After-weight_sum-whole}

pub weight_sum-whole-requires : goal.weight_sum-whole-requires
weight_sum-whole-requires c =
    let (_, few, W, _, _) = c.requires in
    weighed-bounded {w = c.full_word.result} W few (omega (arith, c.full_word.ensures, full-lt c.args.count))

-- what is summed is the whole weight
whole : (c : After-weight_sum-whole) → c.weight_sum-whole.result ≡ whole_weight c.args.weights.now
whole c = sum-whole c.args.weights.now (c.full_word.ensures ∙ ap full (sym c.requires.2.one_each)) c.weight_sum-whole.ensures

pub lay_floats-requires : goal.lay_floats-requires
lay_floats-requires c =
    let (_, few, W, masked, long) = c.requires in
    let (front, many) = c.few_logs-few.ensures in
    record { front = (front, (four-few few W).0, masked, whole (goal.at.lay_floats-requires c).After-weight_sum-whole, omega (arith, many, c.if-whole-le64.true)); floats_len = long }

pub returns-then-whole-le64 : goal.returns-then-whole-le64
returns-then-whole-le64 c = c.lay_floats.ensures

pub lay_floats-requires-2 : goal.lay_floats-requires-2
lay_floats-requires-2 c =
    let (_, few, W, masked, long) = c.requires in
    let lent = c.logs-logs.ensures in
    record { front = (logs-front _ lent, (four-few few W).0, masked, whole (goal.at.lay_floats-requires-2 c).After-weight_sum-whole, omega (arith, whole (goal.at.lay_floats-requires-2 c).After-weight_sum-whole, W.light, logs-long _ lent)); floats_len = long }

pub returns : goal.returns
returns c = c.lay_floats-2.ensures
