-- `logarithms::inner::less` meets its contract. The invariant: what is left to take away, taken from the value now, leaves what the whole does.
-- Assumes nothing.
use mathlib.Core.Path.{◌≡◌, sym, ◌∙◌}
use native.Mathlib.Nat.{sub-zero}
use native.Mathlib.Omega.{arith}
use lib.ListN.{length}
use Rattle.logarithms.specs.Entropy.{missing_at, less}
use Rattle.loops.proofs.LoopLaws.{steps-turn, steps-end}
use Rattle.logarithms.proofs.LogLaws.{logs-front, logs-long}
use Rattle.logarithms.proofs.EntropyLaws.{weight-few, missing_at_in, missing_at-out}
use Rattle.logarithms.proofs.inner.less.Goals as goal
use Rattle.logarithms.proofs.inner.less.Goals.{then-not-has_pattern, else-not-has_pattern}

pub running-value-requires : goal.running-value-requires
running-value-requires c =
    let l = c.args.logs.now in
    (logs-front l c.requires.0, omega (arith, c.requires.1.light, logs-long l c.requires.0))

pub loop-p-init : goal.loop-p-init
unfolding less
loop-p-init c = (omega arith, rw (sub-zero (length c.args.weights.now), c.running-value.ensures))

pub removed-value-requires : goal.removed-value-requires
removed-value-requires c =
    (c.requires.0, weight-few c.args.weights.now c.requires.1.light c.loop-p.p)

pub loop-p-preserved : goal.loop-p-preserved
loop-p-preserved c =
    let a = c.args in
    let ws = a.weights.now in
    let has-is = sym c.has_pattern.ensures in
    let turn : c.if-not-has_pattern.value ≡ missing_at ws a.word c.loop-p.p c.loop-p.value =
    elim c.if-not-has_pattern.branch [
      | then-not-has_pattern w ↦ w.value-is ∙ w.removed-value.ensures ∙ sym (missing_at-out ws a.word c.loop-p.p c.loop-p.value (has-is ∙ w.if-not-has_pattern.true))
      | else-not-has_pattern w ↦ w.value-is ∙ sym (missing_at_in ws a.word c.loop-p.p c.loop-p.value (has-is ∙ w.if-not-has_pattern.false))
    ]
    in
    (omega arith, steps-turn (missing_at ws a.word) (length ws) c.loop-p-test.true turn c.loop-p.invariant.1)

pub returns : goal.returns
returns c =
    let a = c.args in
    steps-end (missing_at a.weights.now a.word) (length a.weights.now) c.loop-p-test.false c.loop-p.invariant.1
