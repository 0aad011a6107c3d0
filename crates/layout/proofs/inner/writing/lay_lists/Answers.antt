-- `layout::inner::writing::lay_lists` meets its contract.
-- Assumes nothing.
use mathlib.Core.Path.{◌≡◌, sym, ap, ◌∙◌}
use Prim.Native.Nat.{◌+◌, ◌*◌}
use native.Mathlib.Omega.{arith}
use lib.ListN.{length}
use Rattle.adjacency.specs.Tables.{Table}
use Rattle.records.proofs.RecordLaws.{length-head_of, laid-record}
use Rattle.records.proofs.LayingLaws.{pen-length, pen-place}
use Rattle.layout.proofs.WritingLaws.{list_bytes-length, ids-most}
use Rattle.layout.proofs.inner.writing.lay_lists.Goals as goal

pub lay_head-place-requires : goal.lay_head-place-requires
lay_head-place-requires c =
    let count = ap (λ (t : Table). t.count) c.table.view_is in
    let ids = ap (λ (t : Table). length t.ids) c.table.view_is in
    (omega arith, omega (arith, ids-most c.args.table.now c.requires.0, c.requires.0.few), omega arith)

pub lay_each_list-requires : goal.lay_each_list-requires
lay_each_list-requires c =
    let t = c.args.table.now in
    let count = ap (λ (t : Table). t.count) c.table.view_is in
    let ids = ap (λ (t : Table). length t.ids) c.table.view_is in
    let A = c.requires.0 in
    let e = c.lay_head-place.ensures in
    (A, omega (arith, pen-length _ _ _ e, pen-place _ _ _ e, length-head_of 2 (4 * c.table.inside.count + length c.table.inside.ids.now), list_bytes-length t A.listed))

pub returns : goal.returns
returns c =
    let count = ap (λ (t : Table). t.count) c.table.view_is in
    let ids = ap (λ (t : Table). length t.ids) c.table.view_is in
    let long : 4 * c.table.inside.count + length c.table.inside.ids.now ≡ 4 * c.args.table.now.count + length c.args.table.now.ids = omega arith in
    laid-record 2 _ _ _ _ (long ∙ sym (list_bytes-length c.args.table.now c.requires.0.listed)) c.lay_head-place.ensures c.lay_each_list.ensures
