-- `layout::inner::writing::lay_each_forbid` meets its contract.
-- Assumes nothing.
use mathlib.Core.List.{List, [], ◌∷◌}
use mathlib.Core.Path.{sym, ap, ◌∙◌}
use Prim.Native.Nat.{ℕ, ◌<◌}
use native.Mathlib.Omega.{arith}
use lib.ListN.{get_or}
use Rattle.records.specs.Numbers.{u16s}
use Rattle.records.specs.Laying.{pen, laid}
use Rattle.layout.specs.Tables.{kind_of, stored}
use Rattle.records.proofs.LayingLaws.{laid-turn, laid-room, laid_none}
use Rattle.layout.proofs.WritingLaws.{kind-small, three-small, stored_next, stored-room, numbered_next, stored_short}
use Rattle.layout.proofs.inner.writing.lay_each_forbid.Goals as goal

pub lay_numbers-place-requires : goal.lay_numbers-place-requires
lay_numbers-place-requires c =
    let (split, size) = c.in-Some.ensures.steps.1 in
    let loop = c.loop-forbid in
    let f = c.in-Some.forbid.now in
    let three = size ∙ loop.invariant.2 in
    let (cell, pattern, more) = numbered_next _ f split three loop.invariant.3 in
    let kind : c.kind_of-kind.result < 65536 = omega (arith, c.kind_of-kind.ensures, kind-small (get_or f 2 0)) in
    let room = laid-room _ (u16s (stored c.args.forbids.now)) loop.out c.args.out.now loop.place c.args.at loop.invariant.4 in
    (three-small _ _ _ cell pattern kind, omega (arith, room.0, room.1, stored-room _ f split three, c.requires.1))

pub loop-forbid-preserved : goal.loop-forbid-preserved
loop-forbid-preserved c =
    let step = c.in-Some.ensures.steps in
    let (split, size) = step.1 in
    let loop = c.loop-forbid in
    let f = c.in-Some.forbid.now in
    let three = size ∙ loop.invariant.2 in
    let part = get_or f 0 0 ∷ get_or f 1 0 ∷ kind_of (get_or f 2 0) ∷ [] in (
      omega (arith, step.0, loop.invariant.0),
      tt,
      step.0 ∙ loop.invariant.2,
      (numbered_next _ f split three loop.invariant.3).2,
      laid-turn _ (u16s part) _ loop.out loop.place (stored_next _ f split three) (rw c.kind_of-kind.ensures at c.lay_numbers-place.ensures) loop.invariant.4,
    )

pub returns : goal.returns
returns c =
    let loop = c.loop-forbid in
    let none = stored_short _ (omega (arith, c.in-None.ensures.steps.1.0, loop.invariant.2)) in
    sym (laid_none (pen loop.out loop.place)) ∙ sym (ap (λ (l : List ℕ). laid l (pen loop.out loop.place)) none) ∙ loop.invariant.4
