-- `sheet::reading::measure` meets its contract.
-- Assumes nothing.
use mathlib.Core.List.{List}
use mathlib.Core.Path.{ap, ◌∙◌}
use Prim.Native.Nat.{ℕ, ◌-◌, ◌*◌, ◌/◌}
use native.Mathlib.Omega.{arith}
use lib.ListN.{length}
use Rattle.records.specs.Numbers.{u16At}
use Rattle.layout.proofs.ShapeLaws.{formed}
use Rattle.layout.proofs.ReadingLaws.{ids-is}
use Rattle.sheet.proofs.MeasureLaws.{measured-is}
use Rattle.sheet.proofs.reading.measure.Goals as goal

pub count_of-count-requires : goal.count_of-count-requires
count_of-count-requires c = ((formed _ c.requires).frames, (formed _ c.requires).weights)

pub lists_of-requires : goal.lists_of-requires
lists_of-requires c = (formed _ c.requires).frames

pub overflow_sub-ids : goal.overflow_sub-ids
overflow_sub-ids c =
    let b = c.args.sheet.now in
    rw c.lists_of.ensures (omega (arith, ids-is b (formed _ c.requires), c.count_of-count.ensures.0))

pub grid_of-grid-requires : goal.grid_of-grid-requires
grid_of-grid-requires c = (formed _ c.requires).frames

pub forbids_of-requires : goal.forbids_of-requires
forbids_of-requires c = (formed _ c.requires).frames

pub u16_at-requires : goal.u16_at-requires
u16_at-requires c = rw c.grid_of-grid.ensures (omega (arith, (formed _ c.requires).sides))

pub u16_at-requires-2 : goal.u16_at-requires-2
u16_at-requires-2 c = rw c.grid_of-grid.ensures (omega (arith, (formed _ c.requires).sides))

pub u16_at-requires-3 : goal.u16_at-requires-3
u16_at-requires-3 c = rw c.grid_of-grid.ensures (omega (arith, (formed _ c.requires).sides))

pub returns : goal.returns
returns c =
    let grid = c.grid_of-grid.ensures in
    measured-is _ (formed _ c.requires) c.count_of-count.ensures.0
    (ap (λ (p : List ℕ). length p - 4 * c.count_of-count.result) c.lists_of.ensures)
    (c.u16_at.ensures.0 ∙ ap (λ (p : List ℕ). u16At p 0) grid)
    (c.u16_at-2.ensures.0 ∙ ap (λ (p : List ℕ). u16At p 2) grid)
    (c.u16_at-3.ensures.0 ∙ ap (λ (p : List ℕ). u16At p 4) grid)
    (ap (λ (p : List ℕ). length p / 6) c.forbids_of.ensures)
