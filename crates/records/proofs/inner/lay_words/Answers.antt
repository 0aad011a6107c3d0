-- `records::inner::lay_words` meets its contract.
-- Assumes nothing.
use mathlib.Core.Path.{sym, ap, ◌∙◌}
use Prim.Native.Nat.{◌+◌}
use native.Mathlib.Omega.{arith}
use lib.ListN.{get_or, drop}
use Rattle.records.specs.Laying.{pen, laid}
use Rattle.records.specs.Numbers.{u64, u64s}
use Rattle.records.proofs.NumberLaws.{le_bytes-u64, length-u64, u64s_next, u64s_none}
use Rattle.records.proofs.LayingLaws.{pen-length, pen-place, laid_as, laid_none, laid-turn}
use Rattle.records.proofs.inner.lay_words.Goals as goal

pub loop-word-preserved : goal.loop-word-preserved
loop-word-preserved c =
    let words = c.args.words.now in
    let loop = c.loop-word in
    let i = loop.word-index in
    let e = laid_as _ c.lay_bytes-place.ensures (c.to_le_bytes.ensures ∙ le_bytes-u64 (get_or words i 0) (omega (arith, c.type_inv.words i))) in
    (pen-length _ _ _ e ∙ loop.invariant.0, omega (arith, pen-place _ _ _ e, length-u64 (get_or words i 0), loop.invariant.1), laid-turn (u64s (drop i words)) (u64 (get_or words i 0)) (u64s (drop (i + 1) words)) loop.out loop.place (u64s_next words i c.loop-word-test.true) e loop.invariant.2)

pub returns : goal.returns
returns c =
    let words = c.args.words.now in
    let loop = c.loop-word in
    sym (laid_none (pen loop.out loop.place)) ∙ ap (λ l. laid l (pen loop.out loop.place)) (sym (u64s_none words loop.word-index c.loop-word-test.false)) ∙ loop.invariant.2
