-- `records::inner::lay_bytes` meets its contract.
-- Assumes nothing.
use mathlib.Core.List.{[], ◌∷◌}
use mathlib.Core.Path.{◌≡◌, sym, ap, ◌∙◌}
use Prim.Native.Nat.{suc, ◌+◌}
use native.Mathlib.Omega.{arith}
use lib.ListN.{get_or, drop, drop_of_length-le}
use lib.Seq.{drop-cons}
use Rattle.records.specs.Laying.{pen, laid}
use Rattle.records.proofs.LayingLaws.{pen-length, pen-place, laid_as, laid_none, laid-turn}
use Rattle.records.proofs.inner.lay_bytes.Goals as goal

pub loop-byte-preserved : goal.loop-byte-preserved
loop-byte-preserved c =
    let bytes = c.args.bytes.now in
    let loop = c.loop-byte in
    let i = loop.byte-index in
    let e = laid_as _ c.lay_byte-place.ensures (ap (λ b. b ∷ []) c.from.ensures) in
    let one : suc i ≡ i + 1 = omega arith in
    (pen-length _ _ _ e ∙ loop.invariant.0, omega (arith, pen-place _ _ _ e, loop.invariant.1), laid-turn (drop i bytes) (get_or bytes i 0 ∷ []) (drop (i + 1) bytes) loop.out loop.place (drop-cons bytes i 0 c.loop-byte-test.true ∙ ap (λ k. get_or bytes i 0 ∷ drop k bytes) one) e loop.invariant.2)

pub returns : goal.returns
returns c =
    let bytes = c.args.bytes.now in
    let loop = c.loop-byte in
    sym (laid_none (pen loop.out loop.place)) ∙ ap (λ l. laid l (pen loop.out loop.place)) (sym (drop_of_length-le bytes c.loop-byte-test.false)) ∙ loop.invariant.2
