-- `bounded::inner::running::run_in` meets its contract: what is lent is as long as a run wants it, so only the noise can be refused.
-- Assumes nothing.
use mathlib.Core.Path.{refl, sym}
use Prim.Native.Nat.{◌+◌, ◌*◌}
use native.Mathlib.Omega.{arith}
use lib.ListN.{take}
use lib.Seq.{length-take-le}
use Rattle.std.specs.Prelude.{Ok, Err}
use Rattle.std.proofs.lemmas.Result.{err_from_is_err_and}
use Rattle.adjacency.specs.Tables.{table}
use Rattle.grid.specs.Grid.{grid}
use Rattle.notes.specs.Blocks.{blocks}
use Rattle.course.specs.Run.{given}
use Rattle.course.specs.Called.{memory}
use Rattle.run.specs.Answers.{answer_told}
use Rattle.bounded.specs.Laid.{laid_told, run_told}
use Rattle.bounded.proofs.RunLaws.{lay-ran, runnable_few, lent-measured}
use Rattle.bounded.proofs.inner.running.run_in.Goals as goal

pub overflow_mul-cells : goal.overflow_mul-cells
overflow_mul-cells c = omega (arith, runnable_few c.requires.0)

pub slice_bounds-run_result-end : goal.slice_bounds-run_result-end
slice_bounds-run_result-end c = omega (arith, runnable_few c.requires.0, c.requires.1)

pub slice_bounds-run_result-end-2 : goal.slice_bounds-run_result-end-2
slice_bounds-run_result-end-2 c = sym (length-take-le _ _ (omega (arith, runnable_few c.requires.0, c.requires.1)))

pub slice_bounds-run_result-end-3 : goal.slice_bounds-run_result-end-3
slice_bounds-run_result-end-3 c = sym (length-take-le _ _ (omega (arith, c.requires.0.small, c.room-counts.ensures)))

pub slice_bounds-run_result-end-4 : goal.slice_bounds-run_result-end-4
slice_bounds-run_result-end-4 c = sym (length-take-le _ _ (omega (arith, c.requires.0.small, c.room-pending.ensures)))

pub overflow_mul-floats : goal.overflow_mul-floats
overflow_mul-floats c = omega (arith, runnable_few c.requires.0)

pub slice_bounds-floats-end : goal.slice_bounds-floats-end
slice_bounds-floats-end c = omega (arith, runnable_few c.requires.0, c.room-floats.ensures)

pub slice_bounds-run_result-end-5 : goal.slice_bounds-run_result-end-5
slice_bounds-run_result-end-5 c = sym (length-take-le _ _ (omega (arith, runnable_few c.requires.0, c.room-floats.ensures)))

pub overflow_mul-marks : goal.overflow_mul-marks
overflow_mul-marks c = omega (arith, runnable_few c.requires.0)

pub overflow_add-marks : goal.overflow_add-marks
overflow_add-marks c = omega (arith, runnable_few c.requires.0)

pub overflow_add-marks-2 : goal.overflow_add-marks-2
overflow_add-marks-2 c = omega (arith, runnable_few c.requires.0)

pub slice_bounds-marks-end : goal.slice_bounds-marks-end
slice_bounds-marks-end c = omega (arith, runnable_few c.requires.0, c.room-marks.ensures)

pub slice_bounds-run_result-end-6 : goal.slice_bounds-run_result-end-6
slice_bounds-run_result-end-6 c = sym (length-take-le _ _ (omega (arith, runnable_few c.requires.0, c.room-marks.ensures)))

pub overflow_mul-result : goal.overflow_mul-result
overflow_mul-result c = omega (arith, runnable_few c.requires.0)

pub overflow_add-result : goal.overflow_add-result
overflow_add-result c = omega (arith, runnable_few c.requires.0)

pub returns : goal.returns
unfolding answer_told laid_told run_told
returns c =
    let a = c.args in
    let pre = c.requires in
    let run = c.run_result in
    let counts = c.room-counts in
    let pending = c.room-pending in
    let floats = c.room-floats in
    let marks = c.room-marks in
    let n = a.height * a.width in
    let small = runnable_few pre.0 in
    let lent = memory (take n a.domains.now) (take (4 * (n * a.count)) counts.result) (take (n * a.count) pending.result) (take (2 * n) floats.result) (take (2 * n + blocks n) marks.result) in
    let M = lent-measured n a.count a.domains.now counts.result pending.result floats.result marks.result small pre.0.small pre.1 counts.ensures pending.ensures floats.ensures marks.ensures in
    lay-ran (given (table a.count a.offsets.now a.ids.now) a.weights.now (grid a.width a.height a.mode) a.noise.now) a.forbids.now pre.0 lent M a.out.now (omega (arith, small, pre.2)) a.words.now a.domains.now {told = answer_told (Ok c.in_ok-stop.stop)} refl (omega (arith, run.auto.domains)) c.in_ok-stop.ensures refl

pub returns-in_err-stop : goal.returns-in_err-stop
unfolding answer_told laid_told run_told
returns-in_err-stop c =
    let a = c.args in
    let pre = c.requires in
    let run = c.run_result in
    let counts = c.room-counts in
    let pending = c.room-pending in
    let floats = c.room-floats in
    let marks = c.room-marks in
    let n = a.height * a.width in
    let small = runnable_few pre.0 in
    let lent = memory (take n a.domains.now) (take (4 * (n * a.count)) counts.result) (take (n * a.count) pending.result) (take (2 * n) floats.result) (take (2 * n + blocks n) marks.result) in
    let M = lent-measured n a.count a.domains.now counts.result pending.result floats.result marks.result small pre.0.small pre.1 counts.ensures pending.ensures floats.ensures marks.ensures in
    let (_, e, same) = err_from_is_err_and c.from_residual.result c.from_residual.ensures.1 in
    rw (e, same)
    (lay-ran (given (table a.count a.offsets.now a.ids.now) a.weights.now (grid a.width a.height a.mode) a.noise.now) a.forbids.now pre.0 lent M a.out.now (omega (arith, small, pre.2)) a.words.now a.domains.now {told = answer_told (Err c.in_err-stop.field-0.0)} refl (omega (arith, run.auto.domains)) c.in_err-stop.ensures refl)
