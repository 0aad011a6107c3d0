-- `logarithms::inner::running` meets its contract. The invariant: what is left to add, added to the value now, is the whole.
-- Assumes nothing.
use native.Mathlib.Nat.{sub-zero}
use native.Mathlib.Omega.{arith}
use lib.ListN.{length}
use Rattle.logarithms.specs.Entropy.{added_at, running}
use Rattle.loops.proofs.LoopLaws.{steps-turn, steps-end}
use Rattle.adjacency.proofs.WeightLaws.{weight-whole}
use Rattle.logarithms.proofs.inner.running.Goals as goal

pub loop-p-init : goal.loop-p-init
unfolding running
loop-p-init c = (omega arith, rw (sub-zero (length c.args.weights.now)))

pub added-value-requires : goal.added-value-requires
added-value-requires c =
    (c.requires.0, omega (arith, c.requires, weight-whole c.args.weights.now c.loop-p.p))

pub loop-p-preserved : goal.loop-p-preserved
unfolding added_at
loop-p-preserved c =
    let ws = c.args.weights.now in
    (omega arith, steps-turn (added_at ws) (length ws) c.loop-p-test.true c.added-value.ensures c.loop-p.invariant.1)

pub returns : goal.returns
returns c =
    let ws = c.args.weights.now in
    steps-end (added_at ws) (length ws) c.loop-p-test.false c.loop-p.invariant.1
