-- `bounded::inner::measure` meets its contract: refused, too large, or taken.
-- Assumes nothing.
use mathlib.Core.List.{List}
use mathlib.Core.Path.{◌≡◌}
use Prim.Native.Nat.{ℕ, ◌≤◌}
use native.Mathlib.Nat.{mul-le-mul}
use native.Mathlib.Omega.{arith}
use Rattle.std.proofs.lemmas.Result.{err_from_is_err_and}
use Rattle.grid.specs.Grid.{grid, Sized}
use Rattle.layout.specs.Reading.{sheet_in}
use Rattle.layout.specs.Lending.{Lent, lent, filled}
use Rattle.sheet.specs.Called.{measured}
use Rattle.bounded.specs.Laid.{sheet_refusal, Held}
use Rattle.bounded.proofs.ReadLaws.{read_number, read_answer, stored}
use Rattle.bounded.proofs.TakenLaws.{taken_refused, taken-large, taken-sheet, measure-large, measure-refused_by, measure-sheet, read-sides}
use Rattle.bounded.proofs.inner.measure.Goals as goal
use Rattle.bounded.proofs.inner.measure.Goals.{After-read_in, In_ok-m}

-- memory that was lent, before and after a sheet was read
module _ (c : After-read_in) where
  abbrev fresh : Lent
  fresh = lent c.room-weights.result c.room-offsets.result c.room-ids.result c.room-forbids.result

  abbrev full : Lent
  full =
      let last = c.read_in.new in
      lent last.weights last.offsets last.ids last.forbids

-- what was read, where nothing was refused
module _ (c : In_ok-m) (b : List ℕ) (H : Held b c.args.sheet.now c.args.formed) where
  answered : (sheet_refusal b ≡ 0) × (c.in_ok-m.m ≡ measured (sheet_in b)) × (full (goal.at.In_ok-m c).After-read_in ≡ filled (sheet_in b) (fresh (goal.at.In_ok-m c).After-read_in))
  answered =
      read_answer b (fresh (goal.at.In_ok-m c).After-read_in) (full (goal.at.In_ok-m c).After-read_in) c.in_ok-m.m c.in_ok-m.was (c.read_in.ensures b H)

  sides : let m = c.in_ok-m.m in (m.count ≤ 64) × Sized (grid m.width m.height m.mode)
  sides =
      let m = c.in_ok-m.m in
      read-sides b m answered.1 (stored b m (fresh (goal.at.In_ok-m c).After-read_in) answered.0 answered.1 answered.2)

pub overflow_mul-cells : goal.overflow_mul-cells
overflow_mul-cells c =
    let (b, H) = c.requires in
    omega (arith, (sides (goal.at.overflow_mul-cells c).In_ok-m b H).1.few)

pub overflow_mul-cells-2 : goal.overflow_mul-cells-2
overflow_mul-cells-2 c =
    let (b, H) = c.requires in
    let (few, sized) = sides (goal.at.overflow_mul-cells-2 c).In_ok-m b H in
    omega (arith, mul-le-mul sized.few few)

pub returns-then-cells-m-gt4096 : goal.returns-then-cells-m-gt4096
returns-then-cells-m-gt4096 c = λ b H.
    let (none, e, _) = answered (goal.at.returns-then-cells-m-gt4096 c).In_ok-m b H in
    measure-large b (taken-large b none c.in_ok-m.m e c.if-cells-m-gt4096.true)

pub returns : goal.returns
returns c = λ b H.
    let m = c.in_ok-m.m in
    let (none, e, _) = answered (goal.at.returns c).In_ok-m b H in
    measure-sheet b m (taken-sheet b none m e c.if-cells-m-gt4096.false) e

pub returns-in_err-m : goal.returns-in_err-m
returns-in_err-m c = λ b H.
    let before = (goal.at.returns-in_err-m c).After-read_in in
    let (_, e, same) = err_from_is_err_and c.from_residual.result c.from_residual.ensures.1 in
    rw (e, same)
    (measure-refused_by b _ (taken_refused b _ (read_number b (fresh before) (full before) _ c.in_err-m.was (c.read_in.ensures b H))))
