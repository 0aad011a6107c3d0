-- What the refusals leave can be stored, and forbids that are stored are judged as they were.
-- Assumes nothing.
use mathlib.Core.Bool.{Bool, true, false, cond, ◌||◌}
use mathlib.Core.List.{List, [], ◌∷◌, ◌++◌}
use mathlib.Core.Path.{◌≡◌, refl, ap}
use Prim.Native.Nat.{ℕ, zero, suc, ◌+◌, ◌*◌, ◌/◌, ◌%◌, ◌≤◌}
use native.Mathlib.Omega.{arith}
use lib.Dec.{ltb, eqb}
use lib.ListN.{length}
use borrow.Author.Tests.{ltb-false, eqb-true}
use Rattle.refusals.specs.Refusals.{first_of, Test}
use Rattle.adjacency.specs.Checks.{bad_count, weights_misfit, offsets_misfit}
use Rattle.adjacency.specs.Tables.{Table}
use Rattle.forbids.specs.Forbids.{forbids_of, records_in, place_tests, forbid_tests, Placed}
use Rattle.grid.specs.Grid.{Grid, Sized, bad_size}
use Rattle.layout.specs.Lending.{Numbered}
use Rattle.sheet.specs.Storable.{Storable}
use Rattle.layout.specs.Tables.{stored}
use Rattle.sheet.specs.Called.{scalar_tests, content_tests, write_misfit}
use Rattle.loops.proofs.TestLaws.{neither}
use Rattle.refusals.proofs.RefusalLaws.{first-passed}
use Rattle.adjacency.proofs.WeightLaws.{weighed}
use Rattle.grid.proofs.GridLaws.{sized_of}
use Rattle.adjacency.proofs.AcceptedLaws.{offsets_long, accepted_by}
use Rattle.forbids.proofs.ForbidLaws.{passed-placed}

pub placed-numbered : {P n : ℕ} (fs : List ℕ) → P ≤ 64 → n ≤ 1024 → Placed P n (forbids_of fs) → Numbered fs
unfolding forbids_of
placed-numbered [] few small h i l = absurd (omega arith)
placed-numbered (c ∷ []) few small h i l = absurd (omega arith)
placed-numbered (c ∷ p ∷ []) few small h i l = absurd (omega arith)
placed-numbered (c ∷ p ∷ k ∷ fs) few small h zero l = (omega (arith, h.0), omega (arith, h.1))
placed-numbered (c ∷ p ∷ k ∷ fs) few small h (suc i) l =
    let first : 3 * suc i ≡ suc (suc (suc (3 * i))) = omega arith in
    let second : 3 * suc i + 1 ≡ suc (suc (suc (3 * i + 1))) = omega arith in
    let (cell, pattern) = placed-numbered fs few small h.2 i (omega arith) in
    (rw first cell, rw second pattern)

-- cells and patterns are the same, so the refusals are
pub forbid_tests-stored : (t : Table) (g : Grid) (fs : List ℕ) → forbid_tests t g (forbids_of (stored fs)) ≡ forbid_tests t g (forbids_of fs)
unfolding stored forbids_of forbid_tests
forbid_tests-stored t g [] = refl
forbid_tests-stored t g (c ∷ []) = refl
forbid_tests-stored t g (c ∷ p ∷ []) = refl
forbid_tests-stored t g (c ∷ p ∷ k ∷ fs) = ap (λ (ts : List Test). place_tests t.count g c p ++ ts) (forbid_tests-stored t g fs)

-- ---- what the refusals leave

records-three : (fs : List ℕ) → ltb 4096 (records_in fs) ≡ false → (length fs % 3 ≡ 0) × (length fs ≤ 12288) × (6 * records_in fs ≡ 2 * length fs)
unfolding records_in
records-three fs e = go (eqb (length fs % 3) 0) refl e
  where
    go : (b : Bool) → eqb (length fs % 3) 0 ≡ b → ltb 4096 (cond b (length fs / 3) 4097) ≡ false
        → (length fs % 3 ≡ 0) × (length fs ≤ 12288) × (6 * cond b (length fs / 3) 4097 ≡ 2 * length fs)
    go true t e =
        let three : length fs % 3 ≡ 0 = eqb-true (length fs % 3) 0 t in
        (three, omega (arith, ltb-false 4096 (length fs / 3) e), omega arith)
    go false t e = absurd (omega (arith, ltb-false 4096 4097 e))

-- count and grid that are not refused
pub scalars-good : (P : ℕ) (g : Grid) → first_of (scalar_tests P g) ≡ 0 → (bad_count P ≡ false) × Sized g
unfolding scalar_tests
scalars-good P g e =
    let (count, (size, (wrap, none))) = first-passed (scalar_tests P g) e in
    (count, sized_of g size wrap)

pub size-good : (P : ℕ) (g : Grid) → first_of (scalar_tests P g) ≡ 0 → bad_size g.width g.height ≡ false
unfolding scalar_tests
size-good P g e = (first-passed (scalar_tests P g) e).1.0

-- lengths that are not refused
lengths_good : (t : Table) (weights forbids : List ℕ) (room : ℕ) → write_misfit t weights forbids room ≡ false
    → (weights_misfit t.count weights ≡ false) × (offsets_misfit t.count t.offsets ≡ false) × (ltb 4096 (records_in forbids) ≡ false)
    × (32 + 6 * t.count + length t.ids + 6 * records_in forbids ≤ room)
unfolding write_misfit
lengths_good t weights forbids room e =
    let (rest, short) = neither (weights_misfit t.count weights || offsets_misfit t.count t.offsets || ltb 4096 (records_in forbids)) _ e in
    let (each, many) = neither (weights_misfit t.count weights || offsets_misfit t.count t.offsets) (ltb 4096 (records_in forbids)) rest in
    let (one, offset) = neither (weights_misfit t.count weights) (offsets_misfit t.count t.offsets) each in
    (one, offset, many, ltb-false room _ short)

pub lengths_long : (t : Table) (weights forbids : List ℕ) (room : ℕ) → write_misfit t weights forbids room ≡ false → length t.offsets ≡ 4 * t.count + 1
lengths_long t weights forbids room e = offsets_long t.count t.offsets (lengths_good t weights forbids room e).1

-- where nothing is refused, all can be stored, and there is room
pub storable : (t : Table) (weights : List ℕ) (g : Grid) (forbids : List ℕ) (room : ℕ) → first_of (scalar_tests t.count g) ≡ 0
    → write_misfit t weights forbids room ≡ false → first_of (content_tests t weights g forbids) ≡ 0
    → Storable t weights g forbids × (32 + 6 * t.count + length t.ids + 2 * length forbids ≤ room)
unfolding content_tests
storable t weights g forbids room scalars lengths content =
    let (count, sized) = scalars-good t.count g scalars in
    let (heavy, (list, (agreement, placed))) = first-passed (content_tests t weights g forbids) content in
    let (one, offset, many, room-enough) = lengths_good t weights forbids room lengths in
    let (threes, few, same) = records-three forbids many in
    let accepted = accepted_by t count offset list agreement in
    let inside = passed-placed t g (forbids_of forbids) placed in (
      record {
        fitting =
            record {
              accepted = accepted;
              weighed = weighed t.count weights one heavy;
              sized = sized;
              threes = threes;
              few = few;
              numbered = placed-numbered forbids accepted.few sized.few inside;
            };
        placed = inside;
      },
      omega arith,
    )
