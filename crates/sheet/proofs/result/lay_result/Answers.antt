-- `sheet::result::lay_result` meets its contract.
-- Assumes nothing.
use mathlib.Core.Path.{ap, ◌∙◌}
use Prim.Native.Nat.{ℕ, ◌+◌, ◌*◌}
use native.Mathlib.Omega.{arith}
use lib.ListN.{length}
use Rattle.collapse.specs.Endings.{end_number}
use Rattle.collapse.proofs.EndingLaws.{end_number-most}
use Rattle.records.specs.Numbers.{u16}
use Rattle.records.specs.Laying.{pen, laid}
use Rattle.records.proofs.NumberLaws.{length-u16}
use Rattle.records.proofs.RecordLaws.{length-head_of}
use Rattle.records.proofs.LayingLaws.{pen-length, pen-place}
use Rattle.sheet.proofs.ResultLaws.{result-laid}
use Rattle.sheet.proofs.result.lay_result.Goals as goal

pub lay_u16-place-requires : goal.lay_u16-place-requires
lay_u16-place-requires c =
    let h = c.lay_head-place.ensures in
    (omega (arith, c.from-end.ensures, end_number-most c.args.stop.end), omega (arith, pen-length _ _ _ h, pen-place _ _ _ h, length-head_of 5 (4 + 8 * length c.args.domains.now), c.requires.2))

pub lay_u16-place-requires-2 : goal.lay_u16-place-requires-2
lay_u16-place-requires-2 c =
    let h = c.lay_head-place.ensures in
    let e = c.lay_u16-place.ensures in
    (c.requires.0, omega (arith, pen-length _ _ _ h, pen-place _ _ _ h, length-head_of 5 (4 + 8 * length c.args.domains.now), pen-length _ _ _ e, pen-place _ _ _ e, length-u16 c.from-end.result, c.requires.2))

pub lay_words-requires : goal.lay_words-requires
lay_words-requires c =
    let h = c.lay_head-place.ensures in
    let e = c.lay_u16-place.ensures in
    let u = c.lay_u16-place-2.ensures in
    omega
    (arith, pen-length _ _ _ h, pen-place _ _ _ h, length-head_of 5 (4 + 8 * length c.args.domains.now), pen-length _ _ _ e, pen-place _ _ _ e, length-u16 c.from-end.result, pen-length _ _ _ u, pen-place _ _ _ u, length-u16 c.args.stop.used, c.requires.2)

pub returns : goal.returns
returns c =
    result-laid (end_number c.args.stop.end) c.args.stop.used c.args.domains.now c.args.out.now c.requires.2 c.lay_head-place.ensures (c.lay_u16-place.ensures ∙ ap (λ (n : ℕ). laid (u16 n) (pen c.lay_head-place.new.out c.lay_head-place.result)) c.from-end.ensures) c.lay_u16-place-2.ensures c.lay_words.ensures
