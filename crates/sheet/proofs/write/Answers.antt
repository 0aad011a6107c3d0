-- `sheet::write` meets its contract.
-- Assumes nothing.
use mathlib.Core.Path.{sym, ◌∙◌}
use lib.ListN.{length}
use Rattle.std.proofs.lemmas.Result.{err_from_is_err_and}
use Rattle.adjacency.specs.Tables.{table}
use Rattle.grid.specs.Grid.{grid}
use Rattle.refusals.proofs.RefusalLaws.{number_of-accepted}
use Rattle.adjacency.proofs.AcceptedLaws.{counted}
use Rattle.sheet.proofs.StorableLaws.{scalars-good, storable, lengths_long}
use Rattle.sheet.proofs.CalledLaws.{write-scalar, write-length, write-content, write_done}
use Rattle.sheet.proofs.write.Goals as goal

pub write_misfit-requires : goal.write_misfit-requires
write_misfit-requires c = (counted c.args.count (scalars-good c.args.count (grid c.args.width c.args.height c.args.mode) (sym c.in_ok-judge_scalars.ensures ∙ number_of-accepted)).0).1

pub returns-then-write_misfit : goal.returns-then-write_misfit
returns-then-write_misfit c = write-length (table c.args.count c.args.offsets.now c.args.ids.now) c.args.weights.now (grid c.args.width c.args.height c.args.mode) c.args.forbids.now c.args.out.now (sym c.in_ok-judge_scalars.ensures ∙ number_of-accepted) (sym c.write_misfit.ensures ∙ c.if-write_misfit.true)

pub judge_content-requires : goal.judge_content-requires
judge_content-requires c = lengths_long (table c.args.count c.args.offsets.now c.args.ids.now) c.args.weights.now c.args.forbids.now (length c.args.out.now) (sym c.write_misfit.ensures ∙ c.if-write_misfit.false)

pub lay_sheet-requires : goal.lay_sheet-requires
lay_sheet-requires c =
    let (S, room) =
    storable (table c.args.count c.args.offsets.now c.args.ids.now) c.args.weights.now (grid c.args.width c.args.height c.args.mode) c.args.forbids.now (length c.args.out.now) (sym c.in_ok-judge_scalars.ensures ∙ number_of-accepted) (sym c.write_misfit.ensures ∙ c.if-write_misfit.false) (sym c.in_ok-judge_content.ensures ∙ number_of-accepted) in
    (S.fitting, room)

pub returns : goal.returns
returns c = write_done (table c.args.count c.args.offsets.now c.args.ids.now) c.args.weights.now (grid c.args.width c.args.height c.args.mode) c.args.forbids.now c.args.out.now (sym c.in_ok-judge_scalars.ensures ∙ number_of-accepted) (sym c.write_misfit.ensures ∙ c.if-write_misfit.false) (sym c.in_ok-judge_content.ensures ∙ number_of-accepted) c.lay_sheet.ensures

pub returns-in_err-judge_scalars : goal.returns-in_err-judge_scalars
returns-in_err-judge_scalars c =
    let (_, e, same) = err_from_is_err_and c.from_residual.result c.from_residual.ensures.1 in
    rw (e, same) (write-scalar (table c.args.count c.args.offsets.now c.args.ids.now) c.args.weights.now (grid c.args.width c.args.height c.args.mode) c.args.forbids.now c.args.out.now _ c.in_err-judge_scalars.ensures)

pub returns-in_err-judge_content : goal.returns-in_err-judge_content
returns-in_err-judge_content c =
    let (_, e, same) = err_from_is_err_and c.from_residual-in_err-judge_content.result c.from_residual-in_err-judge_content.ensures.1 in
    rw (e, same)
    (write-content (table c.args.count c.args.offsets.now c.args.ids.now) c.args.weights.now (grid c.args.width c.args.height c.args.mode) c.args.forbids.now c.args.out.now (sym c.in_ok-judge_scalars.ensures ∙ number_of-accepted) (sym c.write_misfit.ensures ∙ c.if-write_misfit.false) _ c.in_err-judge_content.ensures)
