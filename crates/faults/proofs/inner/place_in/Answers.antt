-- `faults::inner::place_in` meets its contract.
-- Assumes nothing.
use mathlib.Core.Path.{ap, ◌∙◌}
use Prim.Native.Nat.{ℕ}
use native.Mathlib.Omega.{arith}
use Rattle.layout.specs.Reading.{sheet_in}
use Rattle.faults.specs.Places.{sheet_place}
use Rattle.layout.proofs.ShapeLaws.{formed}
use Rattle.layout.proofs.ReadingLaws.{count-is}
use Rattle.sheet.proofs.MeasureLaws.{known}
use Rattle.bounded.proofs.ReadLaws.{sizes-some}
use Rattle.faults.proofs.EndLaws.{place-unnamed, place-unread, place-many, place-few}
use Rattle.faults.proofs.inner.place_in.Goals as goal

pub returns-then-m-gt64 : goal.returns-then-m-gt64
returns-then-m-gt64 c =
    let a = c.args in
    let m = c.in-Ok-sizes.m in
    let (w, e) = sizes-some a.sheet.now m c.in-Ok-sizes.is c.sizes.ensures in
    let size = (known a.sheet.now (formed a.sheet.now w) m e).count_same in
    place-many a.number a.sheet.now w (omega (arith, c.if-m-gt64.true))

pub sheet_place-requires : goal.sheet_place-requires
sheet_place-requires c =
    let a = c.args in
    let m = c.in-Ok-sizes.m in
    let (w, e) = sizes-some a.sheet.now m c.in-Ok-sizes.is c.sizes.ensures in
    let size = (known a.sheet.now (formed a.sheet.now w) m e).count_same in
    (w, omega (arith, c.if-m-gt64.false, count-is a.sheet.now (formed a.sheet.now w)), e)

pub returns-in-Err : goal.returns-in-Err
returns-in-Err c =
    let a = c.args in
    place-unread a.number a.sheet.now c.in-Err.is c.sizes.ensures

pub returns-else-m-gt64 : goal.returns-else-m-gt64
returns-else-m-gt64 c =
    let a = c.args in
    let m = c.in-Ok-sizes.m in
    let (w, e) = sizes-some a.sheet.now m c.in-Ok-sizes.is c.sizes.ensures in
    let size = (known a.sheet.now (formed a.sheet.now w) m e).count_same in
    c.sheet_place.ensures ∙ ap (λ (n : ℕ). sheet_place n (sheet_in a.sheet.now)) c.in-Ok.ensures ∙ place-few a.number a.sheet.now w (omega (arith, c.if-m-gt64.false))

pub returns-in_default : goal.returns-in_default
returns-in_default c = place-unnamed c.args.number c.args.sheet.now c.in_default.ensures
