-- `layout::inner::writing::lay_sheet` meets its contract.
-- Assumes nothing.
use mathlib.Core.List.{[], ◌∷◌}
use native.Mathlib.Omega.{arith}
use lib.ListN.{length}
use Rattle.records.specs.Numbers.{u16s}
use Rattle.layout.specs.Sheet.{list_bytes, bytes_of}
use Rattle.layout.specs.Tables.{lists_of, sheet_for}
use Rattle.records.proofs.NumberLaws.{length-u16s}
use Rattle.records.proofs.RecordLaws.{length-record_of}
use Rattle.records.proofs.LayingLaws.{pen-length, pen-place, laid_then}
use Rattle.adjacency.proofs.WeightLaws.{weight-light}
use Rattle.layout.proofs.WritingLaws.{list_bytes-length}
use Rattle.layout.proofs.inner.writing.lay_sheet.Goals as goal

pub lay_weights-place-requires : goal.lay_weights-place-requires
lay_weights-place-requires c =
    let S = c.requires.0 in
    (λ k h. omega (arith, weight-light S.weighed k), omega (arith, S.accepted.few, S.weighed.one_each), omega (arith, S.weighed.one_each))

pub lay_lists-place-requires : goal.lay_lists-place-requires
lay_lists-place-requires c =
    let S = c.requires.0 in
    (S.accepted, omega (arith, S.weighed.one_each, pen-length _ _ _ c.lay_weights-place.ensures, pen-place _ _ _ c.lay_weights-place.ensures, length-record_of 1 (u16s (length c.args.weights.now ∷ c.args.weights.now)), length-u16s (length c.args.weights.now ∷ c.args.weights.now)))

pub lay_grid-place-requires : goal.lay_grid-place-requires
lay_grid-place-requires c =
    let S = c.requires.0 in
    let z = S.sized in
    (omega (arith, z.narrow), omega (arith, z.low), omega (arith, z.known), omega (arith, S.weighed.one_each, pen-length _ _ _ c.lay_weights-place.ensures, pen-place _ _ _ c.lay_weights-place.ensures, length-record_of 1 (u16s (length c.args.weights.now ∷ c.args.weights.now)), length-u16s (length c.args.weights.now ∷ c.args.weights.now), pen-length _ _ _ c.lay_lists-place.ensures, pen-place _ _ _ c.lay_lists-place.ensures, length-record_of 2 (list_bytes (lists_of c.args.table.now)), list_bytes-length c.args.table.now c.requires.0.accepted.listed))

pub lay_forbids-requires : goal.lay_forbids-requires
lay_forbids-requires c =
    let S = c.requires.0 in
    let z = S.sized in (
      S.numbered,
      S.few,
      omega (arith, S.weighed.one_each, pen-length _ _ _ c.lay_weights-place.ensures, pen-place _ _ _ c.lay_weights-place.ensures, length-record_of 1 (u16s (length c.args.weights.now ∷ c.args.weights.now)), length-u16s (length c.args.weights.now ∷ c.args.weights.now), pen-length _ _ _ c.lay_lists-place.ensures, pen-place _ _ _ c.lay_lists-place.ensures, length-record_of 2 (list_bytes (lists_of c.args.table.now)), list_bytes-length c.args.table.now c.requires.0.accepted.listed, pen-length _ _ _ c.lay_grid-place.ensures, pen-place _ _ _ c.lay_grid-place.ensures, length-record_of 3 (u16s (c.args.grid.width ∷ c.args.grid.height ∷ c.args.grid.mode ∷ [])), length-u16s (c.args.grid.width ∷ c.args.grid.height ∷ c.args.grid.mode ∷ [])),
    )

pub returns : goal.returns
unfolding bytes_of sheet_for
returns c = laid_then _ _ _ _ c.lay_weights-place.ensures (laid_then _ _ _ _ c.lay_lists-place.ensures (laid_then _ _ _ _ c.lay_grid-place.ensures c.lay_forbids.ensures))
