-- `layout::inner::writing::lay_weights` meets its contract.
-- Assumes nothing.
use mathlib.Core.List.{◌++◌}
use mathlib.Core.Path.{◌≡◌}
use Prim.Native.Nat.{◌+◌, ◌*◌}
use native.Mathlib.Omega.{arith}
use lib.ListN.{length, length-append}
use Rattle.records.specs.Numbers.{u16, u16s}
use Rattle.records.proofs.NumberLaws.{length-u16, length-u16s}
use Rattle.records.proofs.RecordLaws.{length-head_of, laid-record}
use Rattle.records.proofs.LayingLaws.{pen-length, pen-place, laid_then}
use Rattle.layout.proofs.inner.writing.lay_weights.Goals as goal

pub lay_u16-place-requires : goal.lay_u16-place-requires
lay_u16-place-requires c =
    let n = length c.args.weights.now in
    let e = c.lay_head-place.ensures in
    (omega arith, omega (arith, pen-length _ _ _ e, pen-place _ _ _ e, length-head_of 1 (2 + 2 * n)))

pub lay_numbers-requires : goal.lay_numbers-requires
lay_numbers-requires c =
    let n = length c.args.weights.now in
    let e = c.lay_head-place.ensures in
    let f = c.lay_u16-place.ensures in
    (c.requires.0, omega (arith, pen-length _ _ _ e, pen-place _ _ _ e, length-head_of 1 (2 + 2 * n), pen-length _ _ _ f, pen-place _ _ _ f, length-u16 n))

pub returns : goal.returns
unfolding u16s
returns c =
    let weights = c.args.weights.now in
    let size : 2 + 2 * length weights ≡ length (u16 (length weights) ++ u16s weights) = omega (arith, length-append (u16 (length weights)) (u16s weights), length-u16 (length weights), length-u16s weights) in
    laid-record 1 _ _ _ _ size c.lay_head-place.ensures (laid_then _ _ _ _ c.lay_u16-place.ensures c.lay_numbers.ensures)
