-- `records::inner::lay_head` meets its contract.
-- Assumes nothing.
use mathlib.Core.Path.{◌∙◌}
use Prim.Native.Nat.{◌+◌}
use native.Mathlib.Omega.{arith}
use Rattle.records.specs.Records.{head_of}
use Rattle.records.proofs.NumberLaws.{le_bytes-u32, length-u32}
use Rattle.records.proofs.LayingLaws.{pen-length, pen-place, laid_as, laid_then}
use Rattle.records.proofs.inner.lay_head.Goals as goal

pub lay_u16-requires : goal.lay_u16-requires
lay_u16-requires c =
    let e = laid_as _ c.lay_bytes-place.ensures (c.to_le_bytes.ensures ∙ le_bytes-u32 (2 + c.args.size) (omega arith)) in
    (omega arith, omega (arith, pen-length _ _ _ e, pen-place _ _ _ e, length-u32 (2 + c.args.size)))

pub returns : goal.returns
unfolding head_of
returns c =
    let e = laid_as _ c.lay_bytes-place.ensures (c.to_le_bytes.ensures ∙ le_bytes-u32 (2 + c.args.size) (omega arith)) in
    laid_then _ _ _ _ e c.lay_u16.ensures
