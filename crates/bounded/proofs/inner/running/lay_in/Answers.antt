-- `bounded::inner::running::lay_in` meets its contract: refused, too large, or the run of what was read.
-- Assumes nothing.
use mathlib.Core.List.{List}
use mathlib.Core.Path.{◌≡◌, sym, ap, ◌∙◌}
use Prim.Native.Nat.{ℕ, ◌+◌, ◌*◌, ◌≤◌}
use native.Mathlib.Nat.{mul-le-mul}
use native.Mathlib.Omega.{arith}
use lib.ListN.{length}
use Rattle.std.proofs.lemmas.Result.{err_from_is_err_and}
use Rattle.grid.specs.Grid.{grid, Sized}
use Rattle.course.specs.Run.{Ended}
use Rattle.layout.specs.Reading.{sheet_in}
use Rattle.layout.specs.Lending.{lent, filled}
use Rattle.sheet.specs.Called.{measured}
use Rattle.bounded.specs.Laid.{Told, sheet_refusal, laid_at, Held}
use Rattle.sheet.proofs.MeasureLaws.{part-fits}
use Rattle.bounded.proofs.ReadLaws.{read_number, read_answer, Stored, stored}
use Rattle.bounded.proofs.TakenLaws.{taken_refused, taken-large, taken-sheet, lay-large, lay-refused_by, lay-sheet, read_runnable, read-ran, read-sides}
use Rattle.bounded.proofs.inner.running.lay_in.Goals as goal
use Rattle.bounded.proofs.inner.running.lay_in.Goals.{In_ok-m}

-- what was read, where nothing was refused
module _ (c : In_ok-m) (b : List ℕ) (H : Held b c.args.sheet.now c.args.formed) where
  answered : let a = c.args in
      let last = c.read_in.new in
      (sheet_refusal b ≡ 0) × (c.in_ok-m.m ≡ measured (sheet_in b))
      × (lent last.weights last.offsets last.ids last.forbids ≡ filled (sheet_in b) (lent a.weights.now a.offsets.now a.ids.now a.forbids.now))
  answered =
      let a = c.args in
      let last = c.read_in.new in
      read_answer b (lent a.weights.now a.offsets.now a.ids.now a.forbids.now) (lent last.weights last.offsets last.ids last.forbids) c.in_ok-m.m c.in_ok-m.was (c.read_in.ensures b H)

  held : let last = c.read_in.new in
      Stored b c.in_ok-m.m last.weights last.offsets last.ids last.forbids
  held =
      let a = c.args in
      stored b c.in_ok-m.m (lent a.weights.now a.offsets.now a.ids.now a.forbids.now) answered.0 answered.1 answered.2

-- there are bytes of which this is held, so that what was read is small
module _ (c : In_ok-m) where
  abbrev some : List ℕ
  some = c.requires.3.0

  stands : let last = c.read_in.new in
      Stored some c.in_ok-m.m last.weights last.offsets last.ids last.forbids
  stands = held c some c.requires.3.1

  sides : (c.in_ok-m.m.count ≤ 64) × Sized (grid c.in_ok-m.m.width c.in_ok-m.m.height c.in_ok-m.m.mode)
  sides = read-sides some c.in_ok-m.m (answered c some c.requires.3.1).1 stands

pub overflow_mul-m : goal.overflow_mul-m
overflow_mul-m c = omega (arith, (sides (goal.at.overflow_mul-m c).In_ok-m).1.few)

pub overflow_mul-m-2 : goal.overflow_mul-m-2
overflow_mul-m-2 c = let small = sides (goal.at.overflow_mul-m-2 c).In_ok-m in omega (arith, mul-le-mul small.1.few small.0)

pub returns-then-m-count-gt4096 : goal.returns-then-m-count-gt4096
returns-then-m-count-gt4096 c = λ b H.
    let a = c.args in
    let (none, e, _) = answered (goal.at.returns-then-m-count-gt4096 c).In_ok-m b H in
    lay-large b a.noise.now a.words.now a.domains.now a.out.now (taken-large b none c.in_ok-m.m e c.if-m-count-gt4096.true)

pub overflow_mul-starts : goal.overflow_mul-starts
overflow_mul-starts c = omega (arith, (sides (goal.at.overflow_mul-starts c).In_ok-m).0)

pub overflow_add-starts : goal.overflow_add-starts
overflow_add-starts c = omega (arith, (sides (goal.at.overflow_add-starts c).In_ok-m).0)

pub overflow_mul-numbers : goal.overflow_mul-numbers
overflow_mul-numbers c = omega (arith, (stands (goal.at.overflow_mul-numbers c).In_ok-m).known.less)

pub slice_bounds-run_in-end : goal.slice_bounds-run_in-end
slice_bounds-run_in-end c = part-fits (3 * c.in_ok-m.m.forbids) c.read_in.new.forbids (ap length (stands (goal.at.slice_bounds-run_in-end c).In_ok-m).parts.forbids_in ∙ (stands (goal.at.slice_bounds-run_in-end c).In_ok-m).known.forbids_same)

pub slice_bounds-run_in-end-2 : goal.slice_bounds-run_in-end-2
slice_bounds-run_in-end-2 c = sym (ap length (stands (goal.at.slice_bounds-run_in-end-2 c).In_ok-m).parts.forbids_in ∙ (stands (goal.at.slice_bounds-run_in-end-2 c).In_ok-m).known.forbids_same)

pub slice_bounds-run_in-end-3 : goal.slice_bounds-run_in-end-3
slice_bounds-run_in-end-3 c = part-fits c.in_ok-m.m.count c.read_in.new.weights (ap length (stands (goal.at.slice_bounds-run_in-end-3 c).In_ok-m).parts.weights_in ∙ (stands (goal.at.slice_bounds-run_in-end-3 c).In_ok-m).known.count_same)

pub slice_bounds-run_in-end-4 : goal.slice_bounds-run_in-end-4
slice_bounds-run_in-end-4 c = sym (ap length (stands (goal.at.slice_bounds-run_in-end-4 c).In_ok-m).parts.weights_in ∙ (stands (goal.at.slice_bounds-run_in-end-4 c).In_ok-m).known.count_same)

pub slice_bounds-run_in-end-5 : goal.slice_bounds-run_in-end-5
slice_bounds-run_in-end-5 c = part-fits (4 * c.in_ok-m.m.count + 1) c.read_in.new.offsets (ap length (stands (goal.at.slice_bounds-run_in-end-5 c).In_ok-m).parts.offsets_in ∙ (stands (goal.at.slice_bounds-run_in-end-5 c).In_ok-m).known.offsets_same)

pub slice_bounds-run_in-end-6 : goal.slice_bounds-run_in-end-6
slice_bounds-run_in-end-6 c = sym (ap length (stands (goal.at.slice_bounds-run_in-end-6 c).In_ok-m).parts.offsets_in ∙ (stands (goal.at.slice_bounds-run_in-end-6 c).In_ok-m).known.offsets_same)

pub slice_bounds-run_in-end-7 : goal.slice_bounds-run_in-end-7
slice_bounds-run_in-end-7 c = part-fits c.in_ok-m.m.ids c.read_in.new.ids (ap length (stands (goal.at.slice_bounds-run_in-end-7 c).In_ok-m).parts.ids_in ∙ (stands (goal.at.slice_bounds-run_in-end-7 c).In_ok-m).known.ids_same)

pub slice_bounds-run_in-end-8 : goal.slice_bounds-run_in-end-8
slice_bounds-run_in-end-8 c = sym (ap length (stands (goal.at.slice_bounds-run_in-end-8 c).In_ok-m).parts.ids_in ∙ (stands (goal.at.slice_bounds-run_in-end-8 c).In_ok-m).known.ids_same)

pub run_in-requires : goal.run_in-requires
run_in-requires c =
    let pre = c.requires in
    (read_runnable pre.3.0 c.in_ok-m.m (answered (goal.at.run_in-requires c).In_ok-m pre.3.0 pre.3.1).1 (stands (goal.at.run_in-requires c).In_ok-m) c.if-m-count-gt4096.false, pre.1, pre.2)

pub shape_of-weights : goal.shape_of-weights
shape_of-weights c = omega (arith, c.read_in.auto.weights)

pub returns : goal.returns
returns c = λ b H.
    let a = c.args in
    let m = c.in_ok-m.m in
    let (none, e, _) = answered (goal.at.returns c).In_ok-m b H in
    let ran = read-ran b m e (held (goal.at.returns c).In_ok-m b H) a.noise.now a.words.now in
    let took = taken-sheet b none m e c.if-m-count-gt4096.false in
    c.run_in.ensures
    ∙ ap (λ (t : Told Ended). laid_at t a.domains.now a.out.now) (ran ∙ lay-sheet b a.noise.now a.words.now a.domains.now a.out.now (sheet_in b) took)

pub returns-in_err-m : goal.returns-in_err-m
returns-in_err-m c = λ b H.
    let a = c.args in
    let last = c.read_in.new in
    let (_, e, same) = err_from_is_err_and c.from_residual.result c.from_residual.ensures.1 in
    rw (e, same)
    (lay-refused_by b a.noise.now a.words.now a.domains.now a.out.now _
    (taken_refused b _
    (read_number b (lent a.weights.now a.offsets.now a.ids.now a.forbids.now) (lent last.weights last.offsets last.ids last.forbids) _ c.in_err-m.was (c.read_in.ensures b H))))
