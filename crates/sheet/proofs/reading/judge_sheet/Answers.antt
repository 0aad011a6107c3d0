-- `sheet::reading::judge_sheet` meets its contract.
-- Assumes nothing.
use mathlib.Core.Path.{sym, ap, ◌∙◌}
use Prim.Native.Nat.{◌+◌, ◌*◌, ◌≤◌}
use native.Mathlib.Omega.{arith}
use lib.ListN.{length}
use Rattle.refusals.specs.Refusals.{first_of}
use Rattle.layout.specs.Reading.{sheet_in}
use Rattle.layout.proofs.ShapeLaws.{formed}
use Rattle.layout.proofs.ReadingLaws.{roomy-own, count-is}
use Rattle.sheet.proofs.MeasureLaws.{Known, known, Parts, read-parts, judged-is, part-fits}
use Rattle.sheet.proofs.reading.judge_sheet.Goals as goal
use Rattle.sheet.proofs.reading.judge_sheet.Goals.{After-measure-m}

-- what is read, once it is measured
measures : (c : After-measure-m) → Known (sheet_in c.args.sheet.now) c.measure-m.result
measures c = known _ (formed _ c.requires.0) c.measure-m.result c.measure-m.ensures

parts : (c : After-measure-m) → let last = c.fill.new in
    Parts (sheet_in c.args.sheet.now) c.measure-m.result last.weights last.offsets last.ids last.forbids
parts c = read-parts (sheet_in c.args.sheet.now) c.measure-m.result (measures c) _ c.fill.ensures

few : (c : After-measure-m) → c.measure-m.result.count ≤ 64
few c = omega (arith, (measures c).count_same, count-is _ (formed _ c.requires.0), c.requires.1)

pub fill-requires : goal.fill-requires
fill-requires c = (c.requires.0, c.requires.1, roomy-own _ (formed _ c.requires.0) (λ k. omega (arith, c.type_inv.sheet k)) c.requires.1)

pub overflow_mul-starts : goal.overflow_mul-starts
overflow_mul-starts c = omega (arith, few c)

pub overflow_add-starts : goal.overflow_add-starts
overflow_add-starts c = omega (arith, few c)

pub overflow_mul-numbers : goal.overflow_mul-numbers
overflow_mul-numbers c = omega (arith, (measures (goal.at.overflow_mul-numbers c).After-measure-m).less)

pub slice_bounds-weights-end : goal.slice_bounds-weights-end
slice_bounds-weights-end c = part-fits c.measure-m.result.count c.fill.new.weights (ap length (parts (goal.at.slice_bounds-weights-end c).After-measure-m).weights_in ∙ (measures (goal.at.slice_bounds-weights-end c).After-measure-m).count_same)

pub slice_bounds-judge_content-end : goal.slice_bounds-judge_content-end
slice_bounds-judge_content-end c = sym (ap length (parts (goal.at.slice_bounds-judge_content-end c).After-measure-m).weights_in ∙ (measures (goal.at.slice_bounds-judge_content-end c).After-measure-m).count_same)

pub slice_bounds-offsets-end : goal.slice_bounds-offsets-end
slice_bounds-offsets-end c = part-fits (4 * c.measure-m.result.count + 1) c.fill.new.offsets (ap length (parts (goal.at.slice_bounds-offsets-end c).After-measure-m).offsets_in ∙ (measures (goal.at.slice_bounds-offsets-end c).After-measure-m).offsets_same)

pub slice_bounds-table-end : goal.slice_bounds-table-end
slice_bounds-table-end c = sym (ap length (parts (goal.at.slice_bounds-table-end c).After-measure-m).offsets_in ∙ (measures (goal.at.slice_bounds-table-end c).After-measure-m).offsets_same)

pub slice_bounds-ids-end : goal.slice_bounds-ids-end
slice_bounds-ids-end c = part-fits c.measure-m.result.ids c.fill.new.ids (ap length (parts (goal.at.slice_bounds-ids-end c).After-measure-m).ids_in ∙ (measures (goal.at.slice_bounds-ids-end c).After-measure-m).ids_same)

pub slice_bounds-table-end-2 : goal.slice_bounds-table-end-2
slice_bounds-table-end-2 c = sym (ap length (parts (goal.at.slice_bounds-table-end-2 c).After-measure-m).ids_in ∙ (measures (goal.at.slice_bounds-table-end-2 c).After-measure-m).ids_same)

pub slice_bounds-forbids-end : goal.slice_bounds-forbids-end
slice_bounds-forbids-end c = part-fits (3 * c.measure-m.result.forbids) c.fill.new.forbids (ap length (parts (goal.at.slice_bounds-forbids-end c).After-measure-m).forbids_in ∙ (measures (goal.at.slice_bounds-forbids-end c).After-measure-m).forbids_same)

pub slice_bounds-judge_content-end-2 : goal.slice_bounds-judge_content-end-2
slice_bounds-judge_content-end-2 c = sym (ap length (parts (goal.at.slice_bounds-judge_content-end-2 c).After-measure-m).forbids_in ∙ (measures (goal.at.slice_bounds-judge_content-end-2 c).After-measure-m).forbids_same)

pub judge_content-requires : goal.judge_content-requires
judge_content-requires c = ap length (parts (goal.at.judge_content-requires c).After-measure-m).offsets_in ∙ (measures (goal.at.judge_content-requires c).After-measure-m).offsets_same

pub returns : goal.returns
returns c =
    let P = parts (goal.at.returns c).After-measure-m in
    c.judge_content.ensures ∙ ap first_of (judged-is (sheet_in c.args.sheet.now) c.measure-m.result c.measure-m.ensures P.weights_in P.offsets_in P.ids_in P.forbids_in)
