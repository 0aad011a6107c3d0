-- `ocean_c::lists::part_of` meets its contract: a list that is answered has at most 64 ids, and begins at its offset.
-- Assumes nothing.
use mathlib.Core.Path.{sym, ap, ◌∙◌}
use Prim.Native.Nat.{ℕ, ◌+◌, ◌*◌, ◌≤◌, ◌<◌}
use native.Mathlib.Omega.{arith}
use lib.ListN.{length, get_or}
use Rattle.ocean_c.specs.Coded.{cased}
use Rattle.adjacency.proofs.LookupLaws.{answered}
use Rattle.ocean_c.proofs.CodeLaws.{cased-is}
use Rattle.ocean_c.proofs.PartLaws.{list-few, list-answered}
use Rattle.ocean_c.proofs.lists.part_of.Goals as goal
use Rattle.ocean_c.proofs.lists.part_of.Goals.{After-shared_slice_known-3-1}

-- a list is short, and an offset is a u32
short : (c : After-shared_slice_known-3-1) → length c.list_of-list.result.now ≤ 64
short c = omega (arith, ap length c.list_of-list.ensures, list-few _ _ _ c.requires)

low : (c : After-shared_slice_known-3-1) → let a = c.args in get_or a.offsets.now (4 * a.pattern + a.direction) 0 < 4294967296
low c = let a = c.args in omega (arith, c.type_inv.offsets (4 * a.pattern + a.direction))

pub list_of-list-requires : goal.list_of-list-requires
list_of-list-requires c = let (ok, hp, hd) = answered _ _ _ c.requires in (ok.listed.laid, hp, hd)

pub overflow_mul-start : goal.overflow_mul-start
overflow_mul-start c = let (ok, hp, hd) = answered _ _ _ c.requires in omega (arith, hp, hd, ok.few)

pub overflow_add-start : goal.overflow_add-start
overflow_add-start c = let (ok, hp, hd) = answered _ _ _ c.requires in omega (arith, hp, hd, ok.few)

pub offset_bounds-offsets-pattern : goal.offset_bounds-offsets-pattern
offset_bounds-offsets-pattern c = let (ok, hp, hd) = answered _ _ _ c.requires in omega (arith, hp, hd, ok.few)

pub bounds-offsets-pattern : goal.bounds-offsets-pattern
bounds-offsets-pattern c = let (ok, hp, hd) = answered _ _ _ c.requires in omega (arith, hp, hd, ok.listed.laid.long)

pub overflow_mul-result : goal.overflow_mul-result
overflow_mul-result c = omega (arith, short c)

pub overflow_cast-result : goal.overflow_cast-result
overflow_cast-result c = omega (arith, low c)

pub overflow_mul-result-2 : goal.overflow_mul-result-2
overflow_mul-result-2 c = omega (arith, low c)

pub overflow_add-result : goal.overflow_add-result
overflow_add-result c = omega (arith, low c, short c)

pub returns : goal.returns
returns c =
    let a = c.args in
    let start = get_or a.offsets.now (4 * a.pattern + a.direction) 0 in
    cased-is (length c.list_of-list.result.now) start
    ∙ ap (λ (n : ℕ). cased n start) (ap length c.list_of-list.ensures)
    ∙ sym (list-answered _ _ _ c.requires)
