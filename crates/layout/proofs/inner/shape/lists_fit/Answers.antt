-- `layout::inner::shape::lists_fit` meets its contract.
-- Assumes nothing.
use mathlib.Core.Path.{◌≡◌, ◌∙◌}
use Prim.Native.Nat.{suc, ◌+◌, ◌-◌}
use native.Mathlib.Omega.{arith}
use Rattle.layout.proofs.ShapeLaws.{lists-over, lists-cut, lists_more, lists-end}
use Rattle.layout.proofs.inner.shape.lists_fit.Goals as goal

pub loop-init : goal.loop-init
loop-init c =
    let all : c.args.lists - 0 ≡ c.args.lists = omega arith in
    (omega arith, rw all)

pub returns-then-at-payload : goal.returns-then-at-payload
returns-then-at-payload c =
    let loop = c.loop in
    let left : c.args.lists - loop.counter ≡ suc (c.args.lists - (loop.counter + 1)) = omega arith in
    lists-over (c.args.lists - (loop.counter + 1)) loop.at c.args.payload.now c.if-at-payload.true ∙ (rw left at loop.invariant.1)

pub returns-then-payload-at : goal.returns-then-payload-at
returns-then-payload-at c =
    let loop = c.loop in
    let left : c.args.lists - loop.counter ≡ suc (c.args.lists - (loop.counter + 1)) = omega arith in
    lists-cut (c.args.lists - (loop.counter + 1)) loop.at c.args.payload.now (omega arith) c.from-size.result c.from-size.ensures c.if-payload-at.true ∙ (rw left at loop.invariant.1)

pub loop-preserved : goal.loop-preserved
loop-preserved c =
    let loop = c.loop in
    let size = c.from-size.result in
    let left : c.args.lists - loop.counter ≡ suc (c.args.lists - (loop.counter + 1)) = omega arith in
    let next : loop.at + (1 + size) ≡ loop.at + 1 + size = omega arith in (
      omega arith,
      rw next (lists_more (c.args.lists - (loop.counter + 1)) loop.at c.args.payload.now (omega arith) size c.from-size.ensures c.if-payload-at.false) ∙ (rw left at loop.invariant.1),
    )

pub returns : goal.returns
returns c =
    let loop = c.loop in
    let left : c.args.lists - loop.counter ≡ 0 = omega arith in
    lists-end 0 loop.at c.args.payload.now loop.invariant.0 ∙ (rw left at loop.invariant.1)
