-- `adjacency::inner::sum_of` meets its contract. The invariant: the sum is right but for the fours that are still to be looked up.
-- Assumes nothing.
use Prim.Native.Nat.{◌+◌, ◌/◌, ◌≤◌}
use native.Mathlib.Omega.{arith}
use lib.ListN.{length}
use Rattle.adjacency.proofs.FourLaws.{Halfway, halfway-first, halfway_next, halfway-end}
use Rattle.adjacency.proofs.inner.sum_of.Goals as goal
use Rattle.adjacency.proofs.inner.sum_of.Goals.{In-loop-base, After-fours_from-sum}

pub loop-base-init : goal.loop-base-init
loop-base-init c = (omega arith, omega arith, omega arith, halfway-first c.args.sums.now c.args.word)

-- sixty-four entries are there
room : (c : In-loop-base) → c.loop-base.base + 64 ≤ length c.args.sums.now
room c = omega (arith, c.requires, c.loop-base.invariant.0, c.loop-base-test.true)

pub fours_from-sum-requires : goal.fours_from-sum-requires
fours_from-sum-requires c = (room c, c.requires.1)

pub overflow_add-sum : goal.overflow_add-sum
overflow_add-sum c =
    let at = c.loop-base in
    omega (arith, c.requires.1, at.invariant.2, c.fours_from-sum.ensures.1, c.loop-base-test.true)

-- what is right after them
next : (c : After-fours_from-sum)
    → let at = c.loop-base in
    Halfway c.args.sums.now c.args.word (at.sum + c.fours_from-sum.result) (at.left / 65536) (at.base + 64)
next c =
    let at = c.loop-base in
    let (whole, inside, few, half) = at.invariant in
    halfway_next c.args.sums.now c.args.word at.sum at.left at.base c.fours_from-sum.result whole (room (goal.at.After-fours_from-sum c).In-loop-base) c.fours_from-sum.ensures.0 half

pub loop-base-preserved : goal.loop-base-preserved
loop-base-preserved c =
    let at = c.loop-base in
    let (whole, inside, few, half) = at.invariant in (
      omega arith,
      room (goal.at.loop-base-preserved c).In-loop-base,
      omega (arith, c.fours_from-sum.ensures.1),
      next (goal.at.loop-base-preserved c).After-fours_from-sum,
    )

pub returns : goal.returns
returns c =
    let at = c.loop-base in
    let a = c.args in
    halfway-end a.sums.now a.word at.sum at.left at.base at.invariant.0 (omega (arith, c.loop-base-test.false)) at.invariant.3

pub returns-2 : goal.returns-2
returns-2 c =
    let at = c.loop-base in
    let a = c.args in
    halfway-end a.sums.now a.word (at.sum + c.fours_from-sum.result) (at.left / 65536) (at.base + 64) (omega (arith, at.invariant.0)) (omega arith)
    (next (goal.at.returns-2 c).After-fours_from-sum)
