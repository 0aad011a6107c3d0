-- `bounded::inner::reading::read_in` meets its contract: refused by length, by form, by count, or as `sheet::read` answers.
-- Assumes nothing.
use mathlib.Core.Path.{sym, ◌∙◌}
use native.Mathlib.Omega.{arith}
use lib.Seq.{length-take-le}
use Rattle.std.proofs.lemmas.Result.{err_from_is_err_and}
use Rattle.layout.specs.Lending.{lent}
use Rattle.bounded.proofs.ReadLaws.{sizes_none, sizes-some, read-long, read_short, read-many, read_whole}
use Rattle.bounded.proofs.inner.reading.read_in.Goals as goal

pub returns-then-sheet-gt90272 : goal.returns-then-sheet-gt90272
returns-then-sheet-gt90272 c = λ b H.
    let a = c.args in
    read-long H (lent a.weights.now a.offsets.now a.ids.now a.forbids.now) c.if-sheet-gt90272.true c.long_refusal.ensures

pub returns-then-m-gt64 : goal.returns-then-m-gt64
returns-then-m-gt64 c = λ b H.
    let a = c.args in
    let m = c.in_ok-m.m in
    let (w, e) = sizes-some a.sheet.now m c.in_ok-m.was c.sizes.ensures in
    let short = c.if-sheet-gt90272.false in
    read-many a.sheet.now m w e (lent a.weights.now a.offsets.now a.ids.now a.forbids.now) c.if-m-gt64.true
    ∙ read_short H (lent a.weights.now a.offsets.now a.ids.now a.forbids.now) short

pub slice_bounds-read-end-2 : goal.slice_bounds-read-end-2
slice_bounds-read-end-2 c = sym (length-take-le _ _ (omega (arith, c.requires.weights_long)))

pub slice_bounds-read-end-4 : goal.slice_bounds-read-end-4
slice_bounds-read-end-4 c = sym (length-take-le _ _ (omega (arith, c.requires.offsets_long)))

pub returns : goal.returns
returns c = λ b H.
    let a = c.args in
    let m = c.in_ok-m.m in
    let (w, e) = sizes-some a.sheet.now m c.in_ok-m.was c.sizes.ensures in
    let held = c.if-sheet-gt90272.false in
    read_whole a.sheet.now m w e held a.weights.now a.offsets.now a.ids.now a.forbids.now c.requires c.if-m-gt64.false c.read.ensures
    ∙ read_short H (lent a.weights.now a.offsets.now a.ids.now a.forbids.now) held

pub returns-in_err-m : goal.returns-in_err-m
returns-in_err-m c = λ b H.
    let a = c.args in
    let (_, e, same) = err_from_is_err_and c.from_residual.result c.from_residual.ensures.1 in
    rw (e, same)
    (sizes_none a.sheet.now (lent a.weights.now a.offsets.now a.ids.now a.forbids.now) _ c.in_err-m.was c.sizes.ensures)
    ∙ read_short H (lent a.weights.now a.offsets.now a.ids.now a.forbids.now) c.if-sheet-gt90272.false
