-- Through the calls and back: what was written is read, what was read is written, and how long a sheet can be. Follows docs/RULES.md, "Sheet".
-- Assumes nothing.
use mathlib.Core.Bool.{Bool, true, false, not, ◌||◌}
use mathlib.Core.List.{List, ◌∷◌}
use mathlib.Core.Path.{◌≡◌, refl, sym, ap, ◌∙◌}
use Prim.Native.Nat.{ℕ, zero, suc, ◌+◌, ◌*◌, ◌/◌, ◌%◌, ◌≤◌}
use native.Mathlib.Nat.{le_refl}
use native.Mathlib.Omega.{arith}
use lib.Dec.{ltb, eqb}
use lib.ListN.{length}
use borrow.Author.Tests.{le-ltb, eq-eqb, not-false, eqb-true}
use Rattle.records.specs.Laying.{over}
use Rattle.records.specs.Records.{payload_of}
use Rattle.refusals.specs.declared.Refusal.TheVariants.{BadWeights, BadList, Disagree}
use Rattle.refusals.specs.Refusals.{Test, ◌gives◌, first_of, answer}
use Rattle.adjacency.specs.Tables.{Table, table}
use Rattle.adjacency.specs.Checks.{weights_misfit, over_weight, bad_list, disagree}
use Rattle.grid.specs.Grid.{Grid}
use Rattle.forbids.specs.Forbids.{records_in}
use Rattle.layout.specs.Sheet.{Sheet, sheet, bytes_of, list_bytes}
use Rattle.layout.specs.Tables.{table_of, lists_from, lists_of, joined, stored, sheet_for}
use Rattle.layout.specs.Reading.{from_lists, from_forbids, count_in, well_formed, sheet_in, kinds_fit}
use Rattle.layout.specs.Lending.{Lent, lent, filled}
use Rattle.sheet.specs.Called.{scalar_tests, content_tests, sheet_tests, form_test, measured, read_misfit, read_tests, read_outcome, read_at, read_called, write_misfit, write_tests, write_outcome, write_at, write_called}
use Rattle.sheet.specs.Storable.{Storable}
use Rattle.records.proofs.RecordLaws.{Bytes}
use Rattle.records.proofs.LayingLaws.{over-whole}
use Rattle.loops.proofs.TestLaws.{neither}
use Rattle.refusals.proofs.RefusalLaws.{first-passed, passed_first, first_next}
use Rattle.adjacency.proofs.AcceptedLaws.{long-good}
use Rattle.layout.proofs.ShapeLaws.{Formed, formed}
use Rattle.layout.proofs.ReadingLaws.{count-is, ids-is, lists_in-length, offsets-many, forbids-bytes}
use Rattle.layout.proofs.WritingLaws.{fitting-size, ids-most, bytes-size, stored-three}
use Rattle.sheet.proofs.StorableLaws.{storable, forbid_tests-stored}
use Rattle.layout.proofs.TableLaws.{offsets_from-lists_of, joined-lists_of, lists_of-table_of, stored_same, kinds_fit-stored}
use Rattle.layout.proofs.InverseLaws.{list_bytes-lists_in, Whole, sheet_in-bytes_of, bytes_of-sheet_in}
use Rattle.sheet.proofs.CalledLaws.{sheet-content, write_misfit-is}

-- ---- what no refusal says of the tests

module _ (misfit : Bool) (t : Table) (weights : List ℕ) (g : Grid) (forbids : List ℕ) where
  pub sheet-passed : first_of (sheet_tests misfit t weights g forbids) ≡ 0
      → (first_of (scalar_tests t.count g) ≡ 0) × (misfit ≡ false) × (first_of (content_tests t weights g forbids) ≡ 0)
  unfolding sheet_tests scalar_tests content_tests
  sheet-passed e =
      let (count, (size, (wrap, (lengths, (heavy, (list, (agreement, placed))))))) = first-passed (sheet_tests misfit t weights g forbids) e in
      (passed_first (scalar_tests t.count g) (count, (size, (wrap, tt))), lengths, passed_first (content_tests t weights g forbids) (heavy, (list, (agreement, placed))))

-- the tests of a sheet that is read, but for its form
abbrev tests_of : Lent → Sheet → List Test
tests_of l s =
    sheet_tests (read_misfit (measured s) (length l.weights) (length l.offsets) (length l.ids) (length l.forbids)) (table_of s) s.weights s.grid s.forbids

-- ---- what was written is read

lists_from-length : (t : Table) (k n : ℕ) → length (lists_from t k n) ≡ n
unfolding lists_from
lists_from-length t k zero = refl
lists_from-length t k (suc n) = ap suc (lists_from-length t (suc k) n)

module _ (t : Table) (weights : List ℕ) (g : Grid) (forbids : List ℕ) (S : Storable t weights g forbids) where
  pub whole-written : Whole (sheet_for t weights g forbids)
  unfolding sheet_for lists_of
  whole-written =
      record {
        lists = lists_from-length t 0 (4 * t.count) ∙ sym (ap (λ (n : ℕ). 4 * n) S.fitting.weighed.one_each);
        threes = omega (arith, stored-three forbids);
        few = omega (arith, stored-three forbids, S.fitting.few);
        kinds = kinds_fit-stored forbids;
      }

  pub table-written : table_of (sheet_for t weights g forbids) ≡ t
  unfolding sheet_for table_of
  table-written =
      λ j. table (S.fitting.weighed.one_each j) (offsets_from-lists_of t S.fitting.accepted.listed j) (joined-lists_of t S.fitting.accepted.listed j)

  -- the tests of what is read back are those of what was written
  content-written : content_tests (table_of (sheet_for t weights g forbids)) weights g (stored forbids) ≡ content_tests t weights g forbids
  unfolding content_tests
  content-written =
      ap (λ (x : Table). content_tests x weights g (stored forbids)) table-written
      ∙ ap
      (λ (ts : List Test). (over_weight weights gives BadWeights) ∷ (bad_list t gives BadList) ∷ (disagree t gives Disagree) ∷ ts)
      (forbid_tests-stored t g forbids)

module _ (t : Table) (weights : List ℕ) (g : Grid) (forbids : List ℕ) (room : ℕ) (accepted : first_of (write_tests t weights g forbids room) ≡ 0) where
  written_storable : Storable t weights g forbids × (32 + 6 * t.count + length t.ids + 2 * length forbids ≤ room)
  unfolding write_tests
  written_storable =
      let (scalars, lengths, content) = sheet-passed (write_misfit t weights forbids room) t weights g forbids accepted in
      storable t weights g forbids room scalars lengths content

  -- in slices of the published lengths: the weights, the offsets, the ids, and the forbids as they are stored
  pub read-written : (l : Lent)
      → read_misfit (measured (sheet_for t weights g forbids)) (length l.weights) (length l.offsets) (length l.ids) (length l.forbids) ≡ false
      → read_called (bytes_of (sheet_for t weights g forbids)) l
      ≡ read_outcome (answer (measured (sheet_for t weights g forbids)))
      (lent (over weights l.weights) (over t.offsets l.offsets) (over t.ids l.ids) (over (stored forbids) l.forbids))
  unfolding write_tests read_called read_at read_tests sheet_for filled
  read-written l fits =
      let S = written_storable.0 in
      let s = sheet_for t weights g forbids in
      let b = bytes_of s in
      let (good, same) = sheet_in-bytes_of s (whole-written t weights g forbids S) in
      let (scalars, lengths, content) = sheet-passed (write_misfit t weights forbids room) t weights g forbids accepted in
      let misfit = read_misfit (measured s) (length l.weights) (length l.offsets) (length l.ids) (length l.forbids) in
      let count : first_of (scalar_tests (table_of s).count g) ≡ 0 = ap (λ (x : Table). first_of (scalar_tests x.count g)) (table-written t weights g forbids S) ∙ scalars in
      let rest : first_of (content_tests (table_of s) weights g (stored forbids)) ≡ 0 = ap first_of (content-written t weights g forbids S) ∙ content in
      let passes : first_of (read_tests b l) ≡ 0 =
      first_next (form_test b) (tests_of l (sheet_in b)) (ap not good)
      ∙ ap (λ (x : Sheet). first_of (tests_of l x)) same
      ∙ sheet-content misfit (table_of s) weights g (stored forbids) count fits ∙ rest in
      ap (λ (n : ℕ). read_at n (sheet_in b) l) passes
      ∙ ap (λ (x : Sheet). read_outcome (answer (measured x)) (filled x l)) same
      ∙ ap (λ (x : Table). read_outcome (answer (measured s)) (lent (over weights l.weights) (over x.offsets l.offsets) (over x.ids l.ids) (over (stored forbids) l.forbids))) (table-written t weights g forbids S)

-- at most 64 patterns, 64 ids in each of their lists, and 4,096 forbids
pub longest : (t : Table) (weights : List ℕ) (g : Grid) (forbids : List ℕ) → Storable t weights g forbids → length (bytes_of (sheet_for t weights g forbids)) ≤ 41376
longest t weights g forbids S =
    omega (arith, fitting-size t weights g forbids S.fitting, ids-most t S.fitting.accepted, S.fitting.accepted.few, S.fitting.few)

-- ---- what was read is written

lists-read : (b : List ℕ) → Formed b → length (sheet_in b).lists ≡ 4 * count_in b
unfolding sheet_in
lists-read b F = lists_in-length (4 * count_in b) (payload_of (from_lists b)) F.lists

lists-bytes : (b : List ℕ) → Formed b → length (list_bytes (sheet_in b).lists) ≡ length (payload_of (from_lists b))
unfolding sheet_in
lists-bytes b F = ap length (list_bytes-lists_in (4 * count_in b) (payload_of (from_lists b)) F.lists)

count-table : (b : List ℕ) → Formed b → (table_of (sheet_in b)).count ≡ count_in b
unfolding table_of
count-table b F = count-is b F

ids-table : (s : Sheet) → length (table_of s).ids ≡ length (joined s.lists)
unfolding table_of
ids-table s = refl

weights-fit : (s : Sheet) → weights_misfit (table_of s).count s.weights ≡ false
unfolding table_of weights_misfit
weights-fit s = ap not (eq-eqb (length s.weights) (length s.weights) refl)

-- what is known of a sheet's numbers
module _ (b : List ℕ) (F : Formed b) where
  lists-many : length (sheet_in b).lists ≡ 4 * length (sheet_in b).weights
  lists-many = lists-read b F ∙ sym (ap (λ (n : ℕ). 4 * n) (count-is b F))

  forbids-three : length (sheet_in b).forbids % 3 ≡ 0
  forbids-three =
      let size = length (payload_of (from_forbids b)) in
      let six : size ≡ 6 * (size / 6) = omega (arith, F.sixes) in
      let three : length (sheet_in b).forbids ≡ 3 * (size / 6) = omega (arith, forbids-bytes b F) in
      omega arith

  kinds-read : kinds_fit (sheet_in b).forbids ≡ true
  unfolding sheet_in
  kinds-read = F.kinds

  records-read : records_in (sheet_in b).forbids ≡ length (sheet_in b).forbids / 3
  unfolding records_in
  records-read = rw (eq-eqb (length (sheet_in b).forbids % 3) 0 forbids-three)

  records-few : records_in (sheet_in b).forbids ≤ 4096
  records-few = omega (arith, records-read, forbids-bytes b F, F.few)

  offsets-fit : length (table_of (sheet_in b)).offsets ≡ 4 * (table_of (sheet_in b)).count + 1
  offsets-fit = offsets-many b F ∙ sym (ap (λ (n : ℕ). 4 * n + 1) (count-table b F))

  sheet-size : length (bytes_of (sheet_in b)) ≡ 32 + 6 * (table_of (sheet_in b)).count + length (table_of (sheet_in b)).ids + 6 * records_in (sheet_in b).forbids
  sheet-size =
      let s = sheet_in b in
      let third : length s.forbids ≡ 3 * (length s.forbids / 3) = omega (arith, forbids-three) in
      omega (arith, bytes-size s, lists-bytes b F, ids-is b F, count-is b F, count-table b F, ids-table s, records-read)

module _ (b : List ℕ) (bytes : Bytes b) (l : Lent) (accepted : first_of (read_tests b l) ≡ 0) where
  read-formed : well_formed b ≡ true
  unfolding read_tests
  read-formed = not-false (well_formed b) (first-passed (read_tests b l) accepted).0

  read-passed : (first_of (scalar_tests (table_of (sheet_in b)).count (sheet_in b).grid) ≡ 0)
      × (first_of (content_tests (table_of (sheet_in b)) (sheet_in b).weights (sheet_in b).grid (sheet_in b).forbids) ≡ 0)
  unfolding read_tests
  read-passed =
      let s = sheet_in b in
      let misfit = read_misfit (measured s) (length l.weights) (length l.offsets) (length l.ids) (length l.forbids) in
      let (scalars, lengths, content) =
      sheet-passed misfit (table_of s) s.weights s.grid s.forbids
      (passed_first (sheet_tests misfit (table_of s) s.weights s.grid s.forbids) (first-passed (read_tests b l) accepted).1) in
      (scalars, content)

  -- what is written is what was read
  sheet-read : sheet_for (table_of (sheet_in b)) (sheet_in b).weights (sheet_in b).grid (sheet_in b).forbids ≡ sheet_in b
  unfolding sheet_for
  sheet-read =
      let s = sheet_in b in
      let F = formed b read-formed in
      let lists = lists_of-table_of s (lists-many b F) in
      let forbids = stored_same s.forbids (kinds-read b F) (forbids-three b F) in
      λ j. sheet s.weights (lists j) s.grid (forbids j)

  bytes_read : bytes_of (sheet_in b) ≡ b
  bytes_read = bytes_of-sheet_in b bytes read-formed

  read-size : length b ≡ 32 + 6 * (table_of (sheet_in b)).count + length (table_of (sheet_in b)).ids + 6 * records_in (sheet_in b).forbids
  read-size = sym (ap length bytes_read) ∙ sheet-size b (formed b read-formed)

  fits-written : (room : ℕ) → length b ≤ room → write_misfit (table_of (sheet_in b)) (sheet_in b).weights (sheet_in b).forbids room ≡ false
  fits-written room h =
      let s = sheet_in b in
      let F = formed b read-formed in
      write_misfit-is (table_of s) s.weights s.forbids room (weights-fit s) (long-good (table_of s).count (table_of s).offsets (offsets-fit b F))
      (le-ltb 4096 (records_in s.forbids) (records-few b F)) (le-ltb room (32 + 6 * (table_of s).count + length (table_of s).ids + 6 * records_in s.forbids) (omega (arith, read-size)))

  pub written_read : (out : List ℕ) → length b ≤ length out
      → write_called (table_of (sheet_in b)) (sheet_in b).weights (sheet_in b).grid (sheet_in b).forbids out ≡ write_outcome (answer (length b)) (over b out)
  unfolding write_called write_at write_tests
  written_read out h =
      let s = sheet_in b in
      let (scalars, content) = read-passed in
      let passes : first_of (write_tests (table_of s) s.weights s.grid s.forbids (length out)) ≡ 0 =
      sheet-content (write_misfit (table_of s) s.weights s.forbids (length out)) (table_of s) s.weights s.grid s.forbids scalars (fits-written (length out) h) ∙ content in
      ap (λ (n : ℕ). write_at n (sheet_for (table_of s) s.weights s.grid s.forbids) out) passes
      ∙ ap (λ (x : List ℕ). write_outcome (answer (length x)) (over x out)) (ap bytes_of sheet-read ∙ bytes_read)

  -- what is read can be stored
  pub read_storable : Storable (table_of (sheet_in b)) (sheet_in b).weights (sheet_in b).grid (sheet_in b).forbids
  read_storable =
      let s = sheet_in b in
      let (scalars, content) = read-passed in
      (storable (table_of s) s.weights s.grid s.forbids (length b) scalars (fits-written (length b) (le_refl (length b))) content).0

  -- the longest sheet that is accepted
  pub read-longest : length b ≤ 41376
  read-longest =
      let s = sheet_in b in
      omega (arith, sym (ap length (ap bytes_of sheet-read ∙ bytes_read)), longest (table_of s) s.weights s.grid s.forbids read_storable)

-- ---- slices of one exact length are written whole

pub filled-whole : (s : Sheet) (l : Lent) → read_misfit (measured s) (length l.weights) (length l.offsets) (length l.ids) (length l.forbids) ≡ false
    → length (table_of s).offsets ≡ 4 * length s.weights + 1 → ((filled s l).weights ≡ s.weights) × ((filled s l).offsets ≡ (table_of s).offsets)
unfolding filled read_misfit measured
filled-whole s l e starts =
    let weights = not (eqb (length l.weights) (length s.weights)) in
    let offsets = not (eqb (length l.offsets) (4 * length s.weights + 1)) in
    let ids = ltb (length l.ids) (length (joined s.lists)) in
    let (rest, forbid) = neither (weights || offsets || ids) (ltb (length l.forbids) (3 * (length s.forbids / 3))) e in
    let (both-same, id) = neither (weights || offsets) ids rest in
    let (weight, offset) = neither weights offsets both-same in
    let one = eqb-true (length l.weights) (length s.weights) (not-false _ weight) in
    let many = eqb-true (length l.offsets) (4 * length s.weights + 1) (not-false _ offset) in
    (over-whole s.weights l.weights (sym one), over-whole (table_of s).offsets l.offsets (starts ∙ sym many))
