-- `layout::inner::writing::lay_grid` meets its contract.
-- Assumes nothing.
use mathlib.Core.Path.{refl}
use native.Mathlib.Omega.{arith}
use Rattle.records.specs.Numbers.{u16s}
use Rattle.records.proofs.RecordLaws.{length-head_of, laid-record}
use Rattle.records.proofs.LayingLaws.{pen-length, pen-place}
use Rattle.layout.proofs.WritingLaws.{three-small}
use Rattle.layout.proofs.inner.writing.lay_grid.Goals as goal

pub lay_numbers-requires : goal.lay_numbers-requires
lay_numbers-requires c =
    let e = c.lay_head-place.ensures in
    (three-small _ _ _ c.requires.0 c.requires.1 c.requires.2, omega (arith, pen-length _ _ _ e, pen-place _ _ _ e, length-head_of 3 6))

pub returns : goal.returns
unfolding u16s
returns c = laid-record 3 _ 6 _ _ refl c.lay_head-place.ensures c.lay_numbers.ensures
