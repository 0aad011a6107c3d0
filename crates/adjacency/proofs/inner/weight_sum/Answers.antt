-- `adjacency::inner::weight_sum` meets its contract. The invariant: the sum and what is left to sum are the whole; the word left falls.
-- Assumes nothing.
use mathlib.Core.Path.{◌≡◌, ap}
use Prim.Native.Nat.{◌+◌, ◌<◌}
use native.Mathlib.Omega.{arith}
use lib.ListN.{length}
use Rattle.words.specs.Words.{bit, without, least}
use Rattle.adjacency.specs.Weights.{weight_of, weight_sum}
use Rattle.words.proofs.ChangeLaws.{without-less}
use Rattle.words.proofs.LeastLaws.{least-found}
use Rattle.adjacency.proofs.WeightLaws.{weight_sum_none, weight_sum-without, weight_sum-le}
use Rattle.adjacency.proofs.inner.weight_sum.Goals as goal
use Rattle.adjacency.proofs.inner.weight_sum.Goals.{After-next_pattern-p}

-- what the next pattern of the word that is left is
next : (c : After-next_pattern-p) →
    let ws = c.args.weights.now in
    let left = c.loop-left.left in
    let p = c.next_pattern-p.result in
    (p < length ws) × (bit left p ≡ 1) × (weight_sum ws left ≡ weight_of ws p + weight_sum ws (without left p))
next c =
    let ws = c.args.weights.now in
    let left = c.loop-left.left in
    let (l, b) = least-found 64 (length ws) left c.requires.few c.loop-left.invariant.0 c.loop-left-test.true in
    rw c.next_pattern-p.ensures (l, b, weight_sum-without ws left (least 64 left) b l)

pub loop-left-init : goal.loop-left-init
loop-left-init c = (c.requires.inside, omega arith)

pub offset_bounds-weights-p : goal.offset_bounds-weights-p
offset_bounds-weights-p c = omega (arith, next c)

pub bounds-weights-p : goal.bounds-weights-p
bounds-weights-p c = (next (goal.at.bounds-weights-p c).After-next_pattern-p).0

pub overflow_add-sum : goal.overflow_add-sum
overflow_add-sum c =
    let a = c.args in
    omega (arith, next (goal.at.overflow_add-sum c).After-next_pattern-p, weight_sum-le a.weights.now a.word)

pub without_least-left-requires : goal.without_least-left-requires
without_least-left-requires c = omega (arith, c.loop-left-test.true)

pub loop-left-smaller : goal.loop-left-smaller
loop-left-smaller c =
    rw (c.without_least-left.ensures, ← c.next_pattern-p.ensures) (without-less _ _ (next (goal.at.loop-left-smaller c).After-next_pattern-p).1)

pub loop-left-preserved : goal.loop-left-preserved
loop-left-preserved c =
    let turn = next (goal.at.loop-left-preserved c).After-next_pattern-p in
    rw (c.without_least-left.ensures, ← c.next_pattern-p.ensures) (omega (arith, turn, without-less _ _ turn.1))

pub returns : goal.returns
returns c =
    let ws = c.args.weights.now in
    omega (arith, weight_sum_none ws, ap (weight_sum ws) c.loop-left-test.false)
