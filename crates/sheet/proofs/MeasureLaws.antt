-- Laws of how much a sheet holds, and of what is read by its measures.
-- Assumes nothing.
use mathlib.Core.Bool.{false, not, ◌||◌}
use mathlib.Core.List.{List}
use mathlib.Core.Path.{◌≡◌, refl, sym, ap, ◌∙◌}
use Prim.Native.Nat.{ℕ, ◌+◌, ◌-◌, ◌*◌, ◌/◌, ◌≤◌}
use native.Mathlib.Omega.{arith}
use lib.Dec.{ltb, eqb}
use lib.ListN.{length, take, drop, length-take}
use lib.Seq.{take_at}
use borrow.Author.Tests.{ltb-false, eqb-true, not-false}
use Rattle.records.specs.Numbers.{u16At}
use Rattle.records.specs.Records.{payload_of}
use Rattle.layout.specs.Tables.{joined, table_of}
use Rattle.layout.specs.Reading.{from_lists, from_grid, from_forbids, count_in, grid_in, sheet_in}
use Rattle.layout.specs.Lending.{Lent, lent, filled, Roomy}
use Rattle.sheet.specs.Called.{scalar_tests, content_tests, read_misfit, measured}
use Rattle.records.specs.Laying.{over}
use Rattle.adjacency.specs.Tables.{table}
use Rattle.grid.specs.Grid.{grid}
use Rattle.layout.specs.Sheet.{Sheet}
use Rattle.sheet.specs.declared.Measures.{Measures}
use Rattle.loops.proofs.TestLaws.{neither}
use Rattle.layout.proofs.ShapeLaws.{Formed}
use Rattle.layout.proofs.ReadingLaws.{count-is, ids-is, forbids-is, forbids-bytes, offsets-many}

module _ (b : List ℕ) (F : Formed b) where
  -- what `measure` answers
  pub measured-is : {count ids width height mode forbids : ℕ} → count ≡ count_in b → ids ≡ length (payload_of (from_lists b)) - 4 * count
      → width ≡ u16At (payload_of (from_grid b)) 0 → height ≡ u16At (payload_of (from_grid b)) 2 → mode ≡ u16At (payload_of (from_grid b)) 4
      → forbids ≡ length (payload_of (from_forbids b)) / 6
      → ◌≡◌ {A = Measures} (record { count = count; ids = ids; width = width; height = height; mode = mode; forbids = forbids }) (measured (sheet_in b))
  unfolding measured sheet_in grid_in
  measured-is {count} {ids} {width} {height} {mode} {forbids} e₁ e₂ e₃ e₄ e₅ e₆ =
      let count_same : count ≡ length (sheet_in b).weights = e₁ ∙ sym (count-is b F) in
      let ids_same : ids ≡ length (joined (sheet_in b).lists) = omega (arith, e₂, ids-is b F) in
      let forbids_same : forbids ≡ length (sheet_in b).forbids / 3 = e₆ ∙ sym (forbids-is b F) in
      λ j. record { count = count_same j; ids = ids_same j; width = e₃ j; height = e₄ j; mode = e₅ j; forbids = forbids_same j }

-- what the measures of a sheet are
pub record Known (s : Sheet) (m : Measures) : Type 0 where
  pub less : m.forbids ≤ 4096
  pub count_same : length s.weights ≡ m.count
  pub offsets_same : length (table_of s).offsets ≡ 4 * m.count + 1
  pub ids_same : length (table_of s).ids ≡ m.ids
  pub forbids_same : length s.forbids ≡ 3 * m.forbids

ids_of : (s : Sheet) → length (table_of s).ids ≡ length (joined s.lists)
unfolding table_of
ids_of s = refl

pub known : (b : List ℕ) → Formed b → (m : Measures) → m ≡ measured (sheet_in b) → Known (sheet_in b) m
unfolding measured
known b F m e =
    let s = sheet_in b in
    let count : length s.weights ≡ m.count = sym (ap (λ (x : Measures). x.count) e) in
    let third : m.forbids ≡ length s.forbids / 3 = ap (λ (x : Measures). x.forbids) e in
    let size = length (payload_of (from_forbids b)) in
    let six : size ≡ 6 * (size / 6) = omega (arith, F.sixes) in
    let three : length s.forbids ≡ 3 * (size / 6) = omega (arith, forbids-bytes b F) in
    record {
      less = omega (arith, forbids-bytes b F, F.few);
      count_same = count;
      offsets_same = omega (arith, offsets-many b F, count-is b F);
      ids_same = ids_of s ∙ sym (ap (λ (x : Measures). x.ids) e);
      forbids_same = omega (arith, forbids-is b F);
    }

-- what is read, by its measures
pub record Parts (s : Sheet) (m : Measures) (weights offsets ids forbids : List ℕ) : Type 0 where
  pub weights_in : take m.count weights ≡ s.weights
  pub offsets_in : take (4 * m.count + 1) offsets ≡ (table_of s).offsets
  pub ids_in : take m.ids ids ≡ (table_of s).ids
  pub forbids_in : take (3 * m.forbids) forbids ≡ s.forbids

-- a part of n entries is within
pub part-fits : (n : ℕ) (l : List ℕ) → length (take n l) ≡ n → n ≤ length l
part-fits n l e = omega (arith, length-take n l)

take-over : (new old : List ℕ) (n : ℕ) → length new ≡ n → take n (over new old) ≡ new
unfolding over
take-over new old n e = take_at new (drop (length new) old) n e

pub read-parts : (s : Sheet) (m : Measures) → Known s m → (l : Lent) {weights offsets ids forbids : List ℕ} → lent weights offsets ids forbids ≡ filled s l
    → Parts s m weights offsets ids forbids
unfolding filled
read-parts s m K l f =
    record {
      weights_in = ap (λ (x : Lent). take m.count x.weights) f ∙ take-over s.weights l.weights m.count K.count_same;
      offsets_in = ap (λ (x : Lent). take (4 * m.count + 1) x.offsets) f ∙ take-over (table_of s).offsets l.offsets (4 * m.count + 1) K.offsets_same;
      ids_in = ap (λ (x : Lent). take m.ids x.ids) f ∙ take-over (table_of s).ids l.ids m.ids K.ids_same;
      forbids_in = ap (λ (x : Lent). take (3 * m.forbids) x.forbids) f ∙ take-over s.forbids l.forbids (3 * m.forbids) K.forbids_same;
    }

-- lengths that are not refused have room
pub roomy-lent : (s : Sheet) (m : Measures) → Known s m → (l : Lent) → read_misfit m (length l.weights) (length l.offsets) (length l.ids) (length l.forbids) ≡ false → Roomy s l
unfolding read_misfit
roomy-lent s m K l e =
    let weights = not (eqb (length l.weights) m.count) in
    let offsets = not (eqb (length l.offsets) (4 * m.count + 1)) in
    let ids = ltb (length l.ids) m.ids in
    let (rest, forbid) = neither (weights || offsets || ids) (ltb (length l.forbids) (3 * m.forbids)) e in
    let (both-same, id) = neither (weights || offsets) ids rest in
    let (weight, offset) = neither weights offsets both-same in
    record {
      weights = omega (arith, K.count_same, eqb-true (length l.weights) m.count (not-false _ weight));
      offsets = omega (arith, K.offsets_same, eqb-true (length l.offsets) (4 * m.count + 1) (not-false _ offset));
      ids = omega (arith, K.ids_same, ltb-false (length l.ids) m.ids id);
      forbids = omega (arith, K.forbids_same, ltb-false (length l.forbids) (3 * m.forbids) forbid);
    }

pub judged-is : (s : Sheet) (m : Measures) → m ≡ measured s → {weights offsets ids forbids : List ℕ} → weights ≡ s.weights → offsets ≡ (table_of s).offsets
    → ids ≡ (table_of s).ids → forbids ≡ s.forbids
    → content_tests (table m.count offsets ids) weights (grid m.width m.height m.mode) forbids ≡ content_tests (table_of s) s.weights s.grid s.forbids
unfolding measured table_of
judged-is s m e e₁ e₂ e₃ e₄ = λ j. content_tests (table (e j).count (e₂ j) (e₃ j)) (e₁ j) (grid (e j).width (e j).height (e j).mode) (e₄ j)

pub scalars-is : (s : Sheet) (m : Measures) → m ≡ measured s → scalar_tests m.count (grid m.width m.height m.mode) ≡ scalar_tests (table_of s).count s.grid
unfolding measured table_of
scalars-is s m e = λ j. scalar_tests (e j).count (grid (e j).width (e j).height (e j).mode)
