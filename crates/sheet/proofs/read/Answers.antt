-- `sheet::read` meets its contract.
-- Assumes nothing.
use mathlib.Core.Path.{sym, ◌∙◌}
use native.Mathlib.Omega.{arith}
use Rattle.std.proofs.lemmas.Result.{err_from_is_err_and}
use Rattle.grid.specs.Grid.{grid}
use Rattle.layout.specs.Lending.{lent}
use Rattle.refusals.proofs.RefusalLaws.{number_of-accepted}
use Rattle.adjacency.proofs.AcceptedLaws.{counted}
use Rattle.layout.proofs.ShapeLaws.{formed}
use Rattle.layout.proofs.ReadingLaws.{count-is}
use Rattle.sheet.proofs.MeasureLaws.{known, roomy-lent}
use Rattle.sheet.proofs.StorableLaws.{scalars-good}
use Rattle.sheet.proofs.CalledLaws.{read-form, read-scalar, read_length, read-content, read_done}
use Rattle.sheet.proofs.read.Goals as goal

pub returns-then-not-well_formed : goal.returns-then-not-well_formed
returns-then-not-well_formed c = read-form c.args.sheet.now (lent c.args.weights.now c.args.offsets.now c.args.ids.now c.args.forbids.now) (sym c.well_formed-2.ensures ∙ c.if-not-well_formed.true)

pub measure-m-requires : goal.measure-m-requires
measure-m-requires c = sym c.well_formed-2.ensures ∙ c.if-not-well_formed.false

pub read_misfit-requires : goal.read_misfit-requires
read_misfit-requires c = ((counted c.measure-m.result.count (scalars-good c.measure-m.result.count (grid c.measure-m.result.width c.measure-m.result.height c.measure-m.result.mode) (sym c.in_ok-judge_scalars.ensures ∙ number_of-accepted)).0).1, (known c.args.sheet.now (formed c.args.sheet.now (sym c.well_formed-2.ensures ∙ c.if-not-well_formed.false)) c.measure-m.result c.measure-m.ensures).less)

pub returns-then-read_misfit : goal.returns-then-read_misfit
returns-then-read_misfit c = read_length c.args.sheet.now (lent c.args.weights.now c.args.offsets.now c.args.ids.now c.args.forbids.now) (sym c.well_formed-2.ensures ∙ c.if-not-well_formed.false) c.measure-m.result c.measure-m.ensures (sym c.in_ok-judge_scalars.ensures ∙ number_of-accepted) (sym c.read_misfit.ensures ∙ c.if-read_misfit.true)

pub judge_sheet-requires : goal.judge_sheet-requires
judge_sheet-requires c =
    let F = formed c.args.sheet.now (sym c.well_formed-2.ensures ∙ c.if-not-well_formed.false) in
    (sym c.well_formed-2.ensures ∙ c.if-not-well_formed.false, omega (arith, count-is _ F, (known c.args.sheet.now (formed c.args.sheet.now (sym c.well_formed-2.ensures ∙ c.if-not-well_formed.false)) c.measure-m.result c.measure-m.ensures).count_same, (counted c.measure-m.result.count (scalars-good c.measure-m.result.count (grid c.measure-m.result.width c.measure-m.result.height c.measure-m.result.mode) (sym c.in_ok-judge_scalars.ensures ∙ number_of-accepted)).0).1))

pub fill-requires : goal.fill-requires
fill-requires c =
    let F = formed c.args.sheet.now (sym c.well_formed-2.ensures ∙ c.if-not-well_formed.false) in
    let K = known c.args.sheet.now (formed c.args.sheet.now (sym c.well_formed-2.ensures ∙ c.if-not-well_formed.false)) c.measure-m.result c.measure-m.ensures in
    (sym c.well_formed-2.ensures ∙ c.if-not-well_formed.false, omega (arith, count-is _ F, K.count_same, (counted c.measure-m.result.count (scalars-good c.measure-m.result.count (grid c.measure-m.result.width c.measure-m.result.height c.measure-m.result.mode) (sym c.in_ok-judge_scalars.ensures ∙ number_of-accepted)).0).1), roomy-lent _ c.measure-m.result K (lent c.args.weights.now c.args.offsets.now c.args.ids.now c.args.forbids.now) (sym c.read_misfit.ensures ∙ c.if-read_misfit.false))

pub returns : goal.returns
returns c = read_done c.args.sheet.now (lent c.args.weights.now c.args.offsets.now c.args.ids.now c.args.forbids.now) (sym c.well_formed-2.ensures ∙ c.if-not-well_formed.false) c.measure-m.result c.measure-m.ensures (sym c.in_ok-judge_scalars.ensures ∙ number_of-accepted) (sym c.read_misfit.ensures ∙ c.if-read_misfit.false) (sym c.in_ok-judge_sheet.ensures ∙ number_of-accepted) c.fill.ensures

pub returns-in_err-judge_scalars : goal.returns-in_err-judge_scalars
returns-in_err-judge_scalars c =
    let (_, e, same) = err_from_is_err_and c.from_residual.result c.from_residual.ensures.1 in
    rw (e, same) (read-scalar c.args.sheet.now (lent c.args.weights.now c.args.offsets.now c.args.ids.now c.args.forbids.now) (sym c.well_formed-2.ensures ∙ c.if-not-well_formed.false) c.measure-m.result c.measure-m.ensures _ c.in_err-judge_scalars.ensures)

pub returns-in_err-judge_sheet : goal.returns-in_err-judge_sheet
returns-in_err-judge_sheet c =
    let (_, e, same) = err_from_is_err_and c.from_residual-in_err-judge_sheet.result c.from_residual-in_err-judge_sheet.ensures.1 in
    rw (e, same)
    (read-content c.args.sheet.now (lent c.args.weights.now c.args.offsets.now c.args.ids.now c.args.forbids.now) (sym c.well_formed-2.ensures ∙ c.if-not-well_formed.false) c.measure-m.result c.measure-m.ensures (sym c.in_ok-judge_scalars.ensures ∙ number_of-accepted) (sym c.read_misfit.ensures ∙ c.if-read_misfit.false) _ c.in_err-judge_sheet.ensures)
