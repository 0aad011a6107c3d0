-- `layout::inner::filling::read_ids` meets its contract.
-- Assumes nothing.
use mathlib.Core.Bool.{true}
use mathlib.Core.List.{List}
use mathlib.Core.Path.{◌≡◌, sym, ap, ◌∙◌}
use Prim.Native.Nat.{ℕ, suc, ◌+◌, ◌-◌}
use native.Mathlib.Omega.{arith}
use lib.ListN.{length, get_or, take, drop, length-append}
use Rattle.records.specs.Laying.{Pen, pen, laid}
use Rattle.layout.specs.Tables.{joined}
use Rattle.layout.specs.Reading.{lists_fit, lists_in}
use Rattle.records.proofs.LayingLaws.{laid-turn, laid-room, laid_none}
use Rattle.layout.proofs.ReadingLaws.{next_inside, next_size, next_fit, next_length, joined_next, joined_none}
use Rattle.layout.proofs.inner.filling.read_ids.Goals as goal

pub loop-init : goal.loop-init
loop-init c =
    let all : c.args.lists - 0 ≡ c.args.lists = omega arith in
    (omega arith, rw all c.requires.0, rw all)

pub overflow_add-start : goal.overflow_add-start
overflow_add-start c =
    let loop = c.loop in
    let p = c.args.payload.now in
    let n = c.args.lists - (loop.counter + 1) in
    let left : c.args.lists - loop.counter ≡ suc n = omega (arith, c.loop-test.true) in
    let fit : lists_fit (suc n) (drop loop.at p) ≡ true = rw left at loop.invariant.1 in
    omega (arith, next_inside n loop.at p fit)

pub bounds-payload-at : goal.bounds-payload-at
bounds-payload-at c =
    let loop = c.loop in
    let p = c.args.payload.now in
    let n = c.args.lists - (loop.counter + 1) in
    let left : c.args.lists - loop.counter ≡ suc n = omega (arith, c.loop-test.true) in
    let fit : lists_fit (suc n) (drop loop.at p) ≡ true = rw left at loop.invariant.1 in
    next_inside n loop.at p fit

pub overflow_add-end : goal.overflow_add-end
overflow_add-end c =
    let loop = c.loop in
    let p = c.args.payload.now in
    let n = c.args.lists - (loop.counter + 1) in
    let left : c.args.lists - loop.counter ≡ suc n = omega (arith, c.loop-test.true) in
    let fit : lists_fit (suc n) (drop loop.at p) ≡ true = rw left at loop.invariant.1 in
    omega (arith, next_size n loop.at p fit, c.from.ensures)

pub slice_bounds-lay_bytes-end : goal.slice_bounds-lay_bytes-end
slice_bounds-lay_bytes-end c =
    let loop = c.loop in
    let p = c.args.payload.now in
    let n = c.args.lists - (loop.counter + 1) in
    let left : c.args.lists - loop.counter ≡ suc n = omega (arith, c.loop-test.true) in
    let fit : lists_fit (suc n) (drop loop.at p) ≡ true = rw left at loop.invariant.1 in
    omega (arith, next_size n loop.at p fit, c.from.ensures)

pub lay_bytes-place-requires : goal.lay_bytes-place-requires
lay_bytes-place-requires c =
    let loop = c.loop in
    let p = c.args.payload.now in
    let n = c.args.lists - (loop.counter + 1) in
    let left : c.args.lists - loop.counter ≡ suc n = omega (arith, c.loop-test.true) in
    let fit : lists_fit (suc n) (drop loop.at p) ≡ true = rw left at loop.invariant.1 in
    let size : c.from.result ≡ get_or p loop.at 0 = c.from.ensures in
    let whole = joined (lists_in (suc n) (drop loop.at p)) in
    let room = laid-room whole (joined (lists_in c.args.lists p)) loop.ids c.args.ids.now loop.place 0 (rw left at loop.invariant.2) in
    let part : loop.at + 1 + c.from.result - (loop.at + 1) ≡ get_or p loop.at 0 = omega arith in
    rw part
    (omega (arith, room.0, room.1, ap length (joined_next n loop.at p fit), length-append (take (get_or p loop.at 0) (drop (loop.at + 1) p)) (joined (lists_in n (drop (loop.at + 1 + get_or p loop.at 0) p))), next_length n loop.at p fit, c.requires.1))

pub loop-preserved : goal.loop-preserved
loop-preserved c =
    let loop = c.loop in
    let p = c.args.payload.now in
    let n = c.args.lists - (loop.counter + 1) in
    let left : c.args.lists - loop.counter ≡ suc n = omega (arith, c.loop-test.true) in
    let fit : lists_fit (suc n) (drop loop.at p) ≡ true = rw left at loop.invariant.1 in
    let size : c.from.result ≡ get_or p loop.at 0 = c.from.ensures in
    let part : loop.at + 1 + get_or p loop.at 0 - (loop.at + 1) ≡ get_or p loop.at 0 = omega arith in
    rw size (
      omega (arith, next_size n loop.at p fit),
      next_fit n loop.at p fit,
      laid-turn (joined (lists_in (suc n) (drop loop.at p))) (take (get_or p loop.at 0) (drop (loop.at + 1) p)) (joined (lists_in n (drop (loop.at + 1 + get_or p loop.at 0) p))) loop.ids loop.place (joined_next n loop.at p fit)
          (rw (size, part) at c.lay_bytes-place.ensures) (rw left at loop.invariant.2),
    )

pub shape_of-ids : goal.shape_of-ids
shape_of-ids c =
    let loop = c.loop in
    let p = c.args.payload.now in
    (laid-room (joined (lists_in (c.args.lists - loop.counter) (drop loop.at p))) (joined (lists_in c.args.lists p)) loop.ids c.args.ids.now loop.place 0 loop.invariant.2).0

pub returns : goal.returns
unfolding laid
returns c =
    let loop = c.loop in
    let p = c.args.payload.now in
    let none : c.args.lists - loop.counter ≡ 0 = omega arith in
    ap (λ (q : Pen). q.slice)
    (sym (laid_none (pen loop.ids loop.place)) ∙ sym (ap (λ (l : List ℕ). laid l (pen loop.ids loop.place)) (joined_none (drop loop.at p))) ∙ (rw none at loop.invariant.2))
