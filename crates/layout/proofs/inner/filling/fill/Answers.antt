-- `layout::inner::filling::fill` meets its contract.
-- Assumes nothing.
use mathlib.Core.Path.{◌≡◌, ap}
use Prim.Native.Nat.{ℕ, ◌*◌}
use native.Mathlib.Omega.{arith}
use Rattle.layout.specs.Tables.{table_of}
use Rattle.layout.specs.Reading.{count_in, sheet_in}
use Rattle.layout.specs.Lending.{lent}
use Rattle.layout.proofs.ShapeLaws.{formed}
use Rattle.layout.proofs.ReadingLaws.{weights-bytes, forbids-bytes, offsets-many, filled_is}
use Rattle.layout.proofs.inner.filling.fill.Goals as goal

pub count_of-lists-requires : goal.count_of-lists-requires
count_of-lists-requires c = ((formed _ c.requires.0).frames, (formed _ c.requires.0).weights)

pub weights_of-requires : goal.weights_of-requires
weights_of-requires c = ((formed _ c.requires.0).frames, (formed _ c.requires.0).weights)

pub read_numbers-requires : goal.read_numbers-requires
read_numbers-requires c =
    let b = c.args.sheet.now in
    rw c.weights_of.ensures (omega (arith, weights-bytes b (formed _ c.requires.0), c.requires.2.weights))

pub lists_of-requires : goal.lists_of-requires
lists_of-requires c = (formed _ c.requires.0).frames

pub read_offsets-requires : goal.read_offsets-requires
read_offsets-requires c =
    let b = c.args.sheet.now in
    let F = formed b c.requires.0 in
    let same : 4 * c.count_of-lists.result ≡ 4 * count_in b = ap (λ (n : ℕ). 4 * n) c.count_of-lists.ensures.0 in
    rw (c.lists_of.ensures, same) (F.lists, omega arith, omega (arith, offsets-many b F, c.requires.2.offsets))

pub lists_of-requires-2 : goal.lists_of-requires-2
lists_of-requires-2 c = (formed _ c.requires.0).frames

pub read_ids-requires : goal.read_ids-requires
unfolding table_of sheet_in
read_ids-requires c =
    let b = c.args.sheet.now in
    let F = formed b c.requires.0 in
    let same : 4 * c.count_of-lists.result ≡ 4 * count_in b = ap (λ (n : ℕ). 4 * n) c.count_of-lists.ensures.0 in
    rw (c.lists_of-2.ensures, same) (F.lists, c.requires.2.ids)

pub forbids_of-requires : goal.forbids_of-requires
forbids_of-requires c = (formed _ c.requires.0).frames

pub read_numbers-requires-2 : goal.read_numbers-requires-2
read_numbers-requires-2 c =
    let b = c.args.sheet.now in
    rw c.forbids_of.ensures (omega (arith, forbids-bytes b (formed _ c.requires.0), c.requires.2.forbids))

pub returns : goal.returns
unfolding table_of sheet_in
returns c =
    let b = c.args.sheet.now in
    let F = formed b c.requires.0 in
    let same : 4 * c.count_of-lists.result ≡ 4 * count_in b = ap (λ (n : ℕ). 4 * n) c.count_of-lists.ensures.0 in
    filled_is (sheet_in b) (lent c.args.weights.now c.args.offsets.now c.args.ids.now c.args.forbids.now) c.requires.2
    (rw c.weights_of.ensures at c.read_numbers.ensures)
    (rw (c.lists_of.ensures, same) at c.read_offsets.ensures)
    (rw (c.lists_of-2.ensures, same) at c.read_ids.ensures)
    (rw c.forbids_of.ensures at c.read_numbers-2.ensures)
