-- `records::inner::lay_numbers` meets its contract.
-- Assumes nothing.
use mathlib.Core.Path.{sym, ap, ◌∙◌}
use Prim.Native.Nat.{◌+◌}
use native.Mathlib.Omega.{arith}
use lib.ListN.{get_or, drop}
use Rattle.records.specs.Laying.{pen, laid}
use Rattle.records.specs.Numbers.{u16, u16s}
use Rattle.records.proofs.NumberLaws.{length-u16, u16s_next, u16s_none}
use Rattle.records.proofs.LayingLaws.{pen-length, pen-place, laid_none, laid-turn}
use Rattle.records.proofs.inner.lay_numbers.Goals as goal

pub loop-number-preserved : goal.loop-number-preserved
loop-number-preserved c =
    let numbers = c.args.numbers.now in
    let loop = c.loop-number in
    let i = loop.number-index in
    let e = c.lay_u16-place.ensures in
    (pen-length _ _ _ e ∙ loop.invariant.0, omega (arith, pen-place _ _ _ e, length-u16 (get_or numbers i 0), loop.invariant.1), laid-turn (u16s (drop i numbers)) (u16 (get_or numbers i 0)) (u16s (drop (i + 1) numbers)) loop.out loop.place (u16s_next numbers i c.loop-number-test.true) e loop.invariant.2)

pub returns : goal.returns
returns c =
    let numbers = c.args.numbers.now in
    let loop = c.loop-number in
    sym (laid_none (pen loop.out loop.place)) ∙ ap (λ l. laid l (pen loop.out loop.place)) (sym (u16s_none numbers loop.number-index c.loop-number-test.false)) ∙ loop.invariant.2
