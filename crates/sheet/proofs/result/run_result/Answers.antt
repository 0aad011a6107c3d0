-- `sheet::result::run_result` meets its contract.
-- Assumes nothing.
use mathlib.Core.Bool.{false}
use mathlib.Core.Path.{◌≡◌, refl, sym, ◌∙◌}
use Prim.Native.Nat.{◌*◌, ◌≤◌}
use native.Mathlib.Omega.{arith}
use lib.ListN.{length}
use Rattle.std.specs.Prelude.{Ok, Err}
use Rattle.std.proofs.lemmas.Result.{err_from_is_err_and}
use Rattle.adjacency.specs.Tables.{table}
use Rattle.grid.specs.Grid.{grid, bad_size}
use Rattle.course.specs.Run.{given}
use Rattle.course.specs.Called.{memory}
use Rattle.run.specs.Answers.{answer_told}
use Rattle.sheet.specs.Result.{answer_over}
use Rattle.grid.proofs.GridLaws.{cells-few}
use Rattle.sheet.proofs.StorableLaws.{size-good}
use Rattle.refusals.proofs.RefusalLaws.{number_of-accepted}
use Rattle.sheet.proofs.ResultLaws.{room-missing, room-there, result-scalar, result-short, result-done, result_writable}
use Rattle.sheet.proofs.result.run_result.Goals as goal
use Rattle.sheet.proofs.result.run_result.Goals.{In_ok-judge_scalars}

-- the grid that is lent is not refused for its size
sized : (c : In_ok-judge_scalars) → bad_size c.args.width c.args.height ≡ false
sized c = let a = c.args in size-good a.count (grid a.width a.height a.mode) (sym c.in_ok-judge_scalars.ensures ∙ number_of-accepted)

few : (c : In_ok-judge_scalars) → c.args.height * c.args.width ≤ 1024
few c = cells-few _ _ (sized c)

pub cells-requires : goal.cells-requires
cells-requires c = sized (goal.at.cells-requires c).In_ok-judge_scalars

pub overflow_mul-cells : goal.overflow_mul-cells
overflow_mul-cells c = omega (arith, c.cells.ensures, few (goal.at.overflow_mul-cells c).In_ok-judge_scalars)

pub overflow_add-cells : goal.overflow_add-cells
overflow_add-cells c = omega (arith, c.cells.ensures, few (goal.at.overflow_add-cells c).In_ok-judge_scalars)

pub returns-then-out-cells : goal.returns-then-out-cells
returns-then-out-cells c =
    let a = c.args in
    result-short (given (table a.count a.offsets.now a.ids.now) a.weights.now (grid a.width a.height a.mode) a.noise.now) a.forbids.now a.words.now (memory a.domains.now a.counts.now a.pending.now a.floats.now a.marks.now) a.out.now (sym c.in_ok-judge_scalars.ensures ∙ number_of-accepted) (room-missing (grid a.width a.height a.mode) (length a.out.now) (rw (← c.cells.ensures) c.if-out-cells.true))

pub returns-in_err-judge_scalars : goal.returns-in_err-judge_scalars
returns-in_err-judge_scalars c =
    let a = c.args in
    let (_, e, same) = err_from_is_err_and c.from_residual.result c.from_residual.ensures.1 in
    rw (e, same) (result-scalar (given (table a.count a.offsets.now a.ids.now) a.weights.now (grid a.width a.height a.mode) a.noise.now) a.forbids.now a.words.now (memory a.domains.now a.counts.now a.pending.now a.floats.now a.marks.now) a.out.now _ c.in_err-judge_scalars.ensures)

-- the run was refused: nothing is written
pub returns-in_err-stop : goal.returns-in_err-stop
unfolding answer_told answer_over
returns-in_err-stop c =
    let a = c.args in
    let run = c.run_numbers in
    let (_, e, same) = err_from_is_err_and c.from_residual-in_err-stop.result c.from_residual-in_err-stop.ensures.1 in
    rw (e, same)
    (result-done (given (table a.count a.offsets.now a.ids.now) a.weights.now (grid a.width a.height a.mode) a.noise.now) a.forbids.now a.words.now (memory a.domains.now a.counts.now a.pending.now a.floats.now a.marks.now) a.out.now (room-there (grid a.width a.height a.mode) (length a.out.now) (rw (← c.cells.ensures) c.if-out-cells.false)) {told = answer_told (Err c.in_err-stop.field-0.0)} {m' = memory run.new.domains run.new.counts run.new.pending run.new.floats run.new.marks} {out' = a.out.now} c.in_err-stop.ensures refl)

pub lay_result-requires : goal.lay_result-requires
unfolding answer_told
lay_result-requires c =
    let a = c.args in
    let run = c.run_numbers in
    let same : length run.new.domains ≡ length a.domains.now = omega (arith, run.auto.domains) in
    let (few, small, enough) =
    result_writable (given (table a.count a.offsets.now a.ids.now) a.weights.now (grid a.width a.height a.mode) a.noise.now) a.forbids.now a.words.now (memory a.domains.now a.counts.now a.pending.now a.floats.now a.marks.now) a.out.now (room-there (grid a.width a.height a.mode) (length a.out.now) (rw (← c.cells.ensures) c.if-out-cells.false)) (answer_told (Ok c.in_ok-stop.stop)) {m' = memory run.new.domains run.new.counts run.new.pending run.new.floats run.new.marks} c.in_ok-stop.ensures same in
    (omega arith, small, enough)

pub returns : goal.returns
unfolding answer_told answer_over
returns c =
    let a = c.args in
    let run = c.run_numbers in
    result-done (given (table a.count a.offsets.now a.ids.now) a.weights.now (grid a.width a.height a.mode) a.noise.now) a.forbids.now a.words.now (memory a.domains.now a.counts.now a.pending.now a.floats.now a.marks.now) a.out.now (room-there (grid a.width a.height a.mode) (length a.out.now) (rw (← c.cells.ensures) c.if-out-cells.false)) {told = answer_told (Ok c.in_ok-stop.stop)} {m' = memory run.new.domains run.new.counts run.new.pending run.new.floats run.new.marks} {out' = c.lay_result.new.out} c.in_ok-stop.ensures c.lay_result.ensures
