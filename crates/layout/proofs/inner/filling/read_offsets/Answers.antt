-- `layout::inner::filling::read_offsets` meets its contract.
-- Assumes nothing.
use mathlib.Core.Bool.{true}
use mathlib.Core.Path.{◌≡◌, refl, ◌∙◌}
use Prim.Native.Nat.{suc, ◌+◌, ◌-◌}
use native.Mathlib.Omega.{arith}
use lib.ListN.{get_or, drop, length-set}
use Rattle.layout.specs.Reading.{lists_fit}
use Rattle.layout.proofs.ReadingLaws.{next_inside, next_size, next_fit, offsets-turn, offsets-end}
use Rattle.layout.proofs.inner.filling.read_offsets.Goals as goal

pub loop-k-init : goal.loop-k-init
loop-k-init c =
    let all : c.args.lists - 0 ≡ c.args.lists = omega arith in
    (omega arith, omega arith, refl, rw all c.requires.0, rw all)

pub bounds-payload-at : goal.bounds-payload-at
bounds-payload-at c =
    let loop = c.loop-k in
    let n = c.args.lists - (loop.k + 1) in
    let left : c.args.lists - loop.k ≡ suc n = omega (arith, c.loop-k-test.true) in
    let fit : lists_fit (suc n) (drop loop.at c.args.payload.now) ≡ true = rw left at loop.invariant.3 in
    next_inside n loop.at c.args.payload.now fit

pub overflow_add-at : goal.overflow_add-at
overflow_add-at c =
    let loop = c.loop-k in
    let n = c.args.lists - (loop.k + 1) in
    let left : c.args.lists - loop.k ≡ suc n = omega (arith, c.loop-k-test.true) in
    let fit : lists_fit (suc n) (drop loop.at c.args.payload.now) ≡ true = rw left at loop.invariant.3 in
    omega (arith, next_size n loop.at c.args.payload.now fit)

pub overflow_add-at-in-loop-k : goal.overflow_add-at-in-loop-k
overflow_add-at-in-loop-k c =
    let loop = c.loop-k in
    let n = c.args.lists - (loop.k + 1) in
    let left : c.args.lists - loop.k ≡ suc n = omega (arith, c.loop-k-test.true) in
    let fit : lists_fit (suc n) (drop loop.at c.args.payload.now) ≡ true = rw left at loop.invariant.3 in
    omega (arith, next_size n loop.at c.args.payload.now fit, c.from-size.ensures)

pub loop-k-preserved : goal.loop-k-preserved
loop-k-preserved c =
    let loop = c.loop-k in
    let n = c.args.lists - (loop.k + 1) in
    let left : c.args.lists - loop.k ≡ suc n = omega (arith, c.loop-k-test.true) in
    let fit : lists_fit (suc n) (drop loop.at c.args.payload.now) ≡ true = rw left at loop.invariant.3 in
    let p = c.args.payload.now in
    let size : c.from-size.result ≡ get_or p loop.at 0 = c.from-size.ensures in
    let next : loop.at + (1 + get_or p loop.at 0) ≡ loop.at + 1 + get_or p loop.at 0 = omega arith in
    rw (size, next) (
      omega (arith, next_size n loop.at p fit),
      omega (arith, c.type_inv.payload loop.at),
      length-set loop.offsets loop.k loop.ids ∙ loop.invariant.2,
      next_fit n loop.at p fit,
      offsets-turn n loop.at p fit loop.ids loop.offsets loop.k ∙ (rw left at loop.invariant.4),
    )

pub shape_of-offsets : goal.shape_of-offsets
shape_of-offsets c = simp length-set c.loop-k.invariant.2

pub returns : goal.returns
returns c =
    let loop = c.loop-k in
    let none : c.args.lists - loop.k ≡ 0 = omega arith in
    let last : c.args.lists ≡ loop.k = omega arith in
    rw last (offsets-end loop.ids loop.offsets loop.k (drop loop.at c.args.payload.now)) ∙ (rw none at loop.invariant.4)
