-- `layout::inner::writing::lay_list` meets its contract.
-- Assumes nothing.
use native.Mathlib.Omega.{arith}
use Rattle.records.proofs.LayingLaws.{pen-length, pen-place, laid_then}
use Rattle.layout.proofs.inner.writing.lay_list.Goals as goal

pub lay_bytes-requires : goal.lay_bytes-requires
lay_bytes-requires c =
    let e = c.lay_byte-place.ensures in
    omega (arith, pen-length _ _ _ e, pen-place _ _ _ e)

pub returns : goal.returns
returns c = laid_then _ _ _ _ c.lay_byte-place.ensures c.lay_bytes.ensures
