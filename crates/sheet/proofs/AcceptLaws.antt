-- What can be stored is not refused: it is written where there is room, and its bytes are read into slices of the published lengths.
-- Follows docs/RULES.md, "Sheet" and "Refusals". Assumes nothing.
use mathlib.Core.Bool.{true, false, not}
use mathlib.Core.List.{List, [], ◌∷◌}
use mathlib.Core.Path.{◌≡◌, ap, ◌∙◌}
use Prim.Native.Nat.{ℕ, ◌+◌, ◌*◌, ◌/◌, ◌%◌, ◌≤◌}
use native.Mathlib.Nat.{le_refl}
use native.Mathlib.Omega.{arith}
use lib.ListN.{length}
use borrow.Author.Tests.{le-ltb, lt-leb, eq-eqb, ne_eqb}
use Rattle.refusals.specs.Refusals.{first_of, answer}
use Rattle.adjacency.specs.Tables.{Table}
use Rattle.adjacency.specs.Lookup.{bad_pattern}
use Rattle.grid.specs.Grid.{Grid, cells, bad_side, bad_size, bad_wrap, Sized}
use Rattle.forbids.specs.declared.Forbid.{Forbid}
use Rattle.forbids.specs.Forbids.{Placed, place_tests, forbid_tests, forbids_of, records_in}
use Rattle.layout.specs.Sheet.{Sheet, bytes_of}
use Rattle.layout.specs.Tables.{table_of, joined, sheet_for}
use Rattle.layout.specs.Reading.{well_formed, sheet_in}
use Rattle.layout.specs.Lending.{Lent, filled}
use Rattle.sheet.specs.Called.{scalar_tests, content_tests, sheet_tests, form_test, measured, read_misfit, read_tests, read_outcome, read_at, read_called, write_misfit, write_tests}
use Rattle.sheet.specs.Storable.{Storable, Lendable}
use Rattle.refusals.proofs.RefusalLaws.{Passed, passed_first, first_next}
use Rattle.adjacency.proofs.WeightLaws.{weighed-good}
use Rattle.adjacency.proofs.AcceptedLaws.{accepted_complete}
use Rattle.grid.proofs.GridLaws.{cell-inside}
use Rattle.layout.proofs.WritingLaws.{fitting-size}
use Rattle.sheet.proofs.CalledLaws.{sheet-content, write_misfit-is, read_misfit-is}
use Rattle.sheet.proofs.RoundLaws.{sheet-passed}

-- ---- written

placed-passes : (t : Table) (g : Grid) (fs : List Forbid) → Placed t.count (cells g) fs → Passed (forbid_tests t g fs)
unfolding forbid_tests place_tests bad_pattern
placed-passes t g [] h = tt
placed-passes t g (f ∷ fs) h = (cell-inside g f.cell h.0, (lt-leb t.count f.pattern h.1, placed-passes t g fs h.2))

side-good : (n : ℕ) → 1 ≤ n → n ≤ 64 → bad_side n ≡ false
unfolding bad_side
side-good n some few = rw (ne_eqb n 0 (λ z. omega arith), le-ltb 64 n few)

size-good : (g : Grid) → Sized g → bad_size g.width g.height ≡ false
unfolding bad_size
size-good g z = rw (side-good g.width z.wide z.narrow, side-good g.height z.tall z.low, le-ltb 1024 (cells g) z.few)

wrap-good : (g : Grid) → Sized g → bad_wrap g.mode ≡ false
unfolding bad_wrap
wrap-good g z = le-ltb 3 g.mode z.known

module _ (t : Table) (weights : List ℕ) (g : Grid) (forbids : List ℕ) (S : Storable t weights g forbids) where
  records-stored : records_in forbids ≡ length forbids / 3
  unfolding records_in
  records-stored = rw (eq-eqb (length forbids % 3) 0 S.fitting.threes)

  pub write_accepts : (room : ℕ) → length (bytes_of (sheet_for t weights g forbids)) ≤ room → first_of (write_tests t weights g forbids room) ≡ 0
  unfolding write_tests sheet_tests scalar_tests content_tests
  write_accepts room h =
      let (count, offset, list, agreement) = accepted_complete t S.fitting.accepted in
      let (one, heavy) = weighed-good S.fitting.weighed in
      let third : length forbids ≡ 3 * (length forbids / 3) = omega (arith, S.fitting.threes) in
      let needed = 32 + 6 * t.count + length t.ids + 6 * records_in forbids in
      let lengths : write_misfit t weights forbids room ≡ false =
      write_misfit-is t weights forbids room one offset (le-ltb 4096 (records_in forbids) (omega (arith, records-stored, S.fitting.few)))
      (le-ltb room needed (omega (arith, records-stored, fitting-size t weights g forbids S.fitting))) in
      passed_first (write_tests t weights g forbids room)
      (count, (size-good g S.fitting.sized, (wrap-good g S.fitting.sized, (lengths, (heavy, (list, (agreement, placed-passes t g (forbids_of forbids) S.placed)))))))

-- ---- read

-- slices of the published lengths fit
lendable_fits : (s : Sheet) (l : Lent) → Lendable s l → read_misfit (measured s) (length l.weights) (length l.offsets) (length l.ids) (length l.forbids) ≡ false
unfolding measured
lendable_fits s l L =
    read_misfit-is (measured s) (length l.weights) (length l.offsets) (length l.ids) (length l.forbids) (ap not (eq-eqb _ _ L.weights))
    (ap not (eq-eqb _ _ L.offsets)) (le-ltb (length l.ids) (length (joined s.lists)) L.ids)
    (le-ltb (length l.forbids) (3 * (length s.forbids / 3)) (omega (arith, L.forbids)))

-- bytes that are a sheet, and what they say can be stored
module _ (b : List ℕ) (good : well_formed b ≡ true) (S : Storable (table_of (sheet_in b)) (sheet_in b).weights (sheet_in b).grid (sheet_in b).forbids) (l : Lent) (L : Lendable (sheet_in b) l) where
  pub read_accepts : first_of (read_tests b l) ≡ 0
  unfolding read_tests write_tests
  read_accepts =
      let s = sheet_in b in
      let room = length (bytes_of (sheet_for (table_of s) s.weights s.grid s.forbids)) in
      let (scalars, lengths, content) =
      sheet-passed (write_misfit (table_of s) s.weights s.forbids room) (table_of s) s.weights s.grid s.forbids
      (write_accepts (table_of s) s.weights s.grid s.forbids S room (le_refl room)) in
      let misfit = read_misfit (measured s) (length l.weights) (length l.offsets) (length l.ids) (length l.forbids) in
      first_next (form_test b) (sheet_tests misfit (table_of s) s.weights s.grid s.forbids) (ap not good)
      ∙ sheet-content misfit (table_of s) s.weights s.grid s.forbids scalars (lendable_fits s l L) ∙ content

  pub read-accepted : read_called b l ≡ read_outcome (answer (measured (sheet_in b))) (filled (sheet_in b) l)
  unfolding read_called read_at
  read-accepted = ap (λ (n : ℕ). read_at n (sheet_in b) l) read_accepts
