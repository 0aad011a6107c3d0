-- `faults::inner::sheet_place` meets its contract: what was read is searched.
-- Assumes nothing.
use mathlib.Core.Path.{sym, ap, ◌∙◌}
use Prim.Native.Nat.{◌+◌, ◌*◌, ◌≤◌}
use native.Mathlib.Omega.{arith}
use lib.ListN.{length}
use Rattle.refusals.specs.Refusals.{number}
use Rattle.layout.specs.Reading.{sheet_in}
use Rattle.layout.proofs.ShapeLaws.{formed}
use Rattle.layout.proofs.ReadingLaws.{roomy-own, count-is}
use Rattle.sheet.proofs.MeasureLaws.{Known, known, Parts, read-parts, part-fits}
use Rattle.faults.proofs.SheetLaws.{sheet-laid}
use Rattle.faults.proofs.EndLaws.{laid-read, place_read}
use Rattle.faults.proofs.inner.sheet_place.Goals as goal
use Rattle.faults.proofs.inner.sheet_place.Goals.{After-struct_known-1}

-- what is read
measures : (c : After-struct_known-1) → Known (sheet_in c.args.sheet.now) c.args.m
measures c = known _ (formed _ c.requires.0) c.args.m c.requires.2

parts : (c : After-struct_known-1) → let last = c.fill.new in
    Parts (sheet_in c.args.sheet.now) c.args.m last.weights last.offsets last.ids last.forbids
parts c = read-parts (sheet_in c.args.sheet.now) c.args.m (measures c) _ c.fill.ensures

few : (c : After-struct_known-1) → c.args.m.count ≤ 64
few c = omega (arith, (measures c).count_same, count-is _ (formed _ c.requires.0), c.requires.1)

pub fill-requires : goal.fill-requires
fill-requires c =
    (c.requires.0, c.requires.1, roomy-own _ (formed _ c.requires.0) (λ k. omega (arith, c.type_inv.sheet k)) c.requires.1)

pub overflow_mul-starts : goal.overflow_mul-starts
overflow_mul-starts c = omega (arith, few c)

pub overflow_add-starts : goal.overflow_add-starts
overflow_add-starts c = omega (arith, few c)

pub overflow_mul-numbers : goal.overflow_mul-numbers
overflow_mul-numbers c = omega (arith, (measures (goal.at.overflow_mul-numbers c).After-struct_known-1).less)

pub slice_bounds-offsets-end : goal.slice_bounds-offsets-end
slice_bounds-offsets-end c =
    part-fits (4 * c.args.m.count + 1) c.fill.new.offsets (ap length (parts (goal.at.slice_bounds-offsets-end c).After-struct_known-1).offsets_in ∙ (measures (goal.at.slice_bounds-offsets-end c).After-struct_known-1).offsets_same)

pub slice_bounds-table-end : goal.slice_bounds-table-end
slice_bounds-table-end c = sym (ap length (parts (goal.at.slice_bounds-table-end c).After-struct_known-1).offsets_in ∙ (measures (goal.at.slice_bounds-table-end c).After-struct_known-1).offsets_same)

pub slice_bounds-ids-end : goal.slice_bounds-ids-end
slice_bounds-ids-end c =
    part-fits c.args.m.ids c.fill.new.ids (ap length (parts (goal.at.slice_bounds-ids-end c).After-struct_known-1).ids_in ∙ (measures (goal.at.slice_bounds-ids-end c).After-struct_known-1).ids_same)

pub slice_bounds-table-end-2 : goal.slice_bounds-table-end-2
slice_bounds-table-end-2 c = sym (ap length (parts (goal.at.slice_bounds-table-end-2 c).After-struct_known-1).ids_in ∙ (measures (goal.at.slice_bounds-table-end-2 c).After-struct_known-1).ids_same)

pub slice_bounds-forbids-end : goal.slice_bounds-forbids-end
slice_bounds-forbids-end c =
    part-fits (3 * c.args.m.forbids) c.fill.new.forbids (ap length (parts (goal.at.slice_bounds-forbids-end c).After-struct_known-1).forbids_in ∙ (measures (goal.at.slice_bounds-forbids-end c).After-struct_known-1).forbids_same)

pub slice_bounds-place_at-end : goal.slice_bounds-place_at-end
slice_bounds-place_at-end c = sym (ap length (parts (goal.at.slice_bounds-place_at-end c).After-struct_known-1).forbids_in ∙ (measures (goal.at.slice_bounds-place_at-end c).After-struct_known-1).forbids_same)

pub place_at-requires : goal.place_at-requires
place_at-requires c =
    let P = parts (goal.at.place_at-requires c).After-struct_known-1 in
    laid-read (sheet_in c.args.sheet.now) c.args.m c.requires.2 P.offsets_in P.ids_in (sheet-laid _ (formed _ c.requires.0))

pub returns : goal.returns
returns c =
    let P = parts (goal.at.returns c).After-struct_known-1 in
    c.place_at.ensures
    ∙ place_read (sheet_in c.args.sheet.now) c.args.m c.requires.2 P.offsets_in P.ids_in (number c.args.refusal) P.forbids_in
