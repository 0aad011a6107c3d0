-- Laws of the calls: each refusal at its end, and what is told where nothing is refused.
-- Assumes nothing.
use mathlib.Core.Bool.{Bool, true, false, not, cond, ◌||◌}
use mathlib.Core.List.{List, [], ◌∷◌}
use mathlib.Core.Path.{◌≡◌, refl, sym, ap, ◌∙◌}
use Prim.Native.Nat.{ℕ, zero, suc, ◌+◌, ◌-◌, ◌*◌, ◌≤◌, ◌<◌}
use native.Mathlib.Omega.{arith}
use lib.Dec.{ltb, eqb}
use lib.ListN.{length}
use borrow.Author.Tests.{lt-ltb, le-ltb, ltb-true, ltb-false, ne_eqb}
use Rattle.records.specs.Laying.{Pen, pen, laid}
use Rattle.refusals.specs.declared.Refusal.{Refusal}
use Rattle.adjacency.specs.Tables.{Table}
use Rattle.adjacency.specs.Checks.{bad_count, weights_misfit, offsets_misfit, over_weight, bad_list, disagree}
use Rattle.grid.specs.Grid.{Grid, grid, bad_size, bad_wrap}
use Rattle.forbids.specs.Forbids.{forbid_tests, forbids_of, records_in}
use Rattle.refusals.specs.declared.Refusal.TheVariants.{BadSheet, BadLength}
use Rattle.refusals.specs.Refusals.{◌gives◌, number, number_of, first_of, refused, answer}
use Rattle.sheet.specs.declared.Measures.{Measures}
use Rattle.std.specs.Prelude.{Ok, Err}
use Rattle.layout.specs.Sheet.{bytes_of}
use Rattle.layout.specs.Reading.{well_formed, sheet_in}
use Rattle.layout.specs.Tables.{sheet_for, table_of}
use Rattle.layout.specs.Lending.{Lent, filled}
use Rattle.sheet.specs.Called.{scalar_tests, content_tests, sheet_tests, form_test, measured, sizes_told, sizes_asked, read_misfit, read_tests, read_outcome, read_at, read_called, write_misfit, write_tests, written_told, write_outcome, write_at, write_called}
use Rattle.sheet.proofs.MeasureLaws.{scalars-is}
use Rattle.records.proofs.LayingLaws.{laid-over}
use Rattle.layout.proofs.WritingLaws.{fitting-size}
use Rattle.sheet.proofs.StorableLaws.{storable}
use Rattle.refusals.proofs.RefusalLaws.{number-positive, number_of-positive, number_of-refused, first-append, first-here, first_next, first-empty, checked-accepted, checked_refused}

module _ (b : List ℕ) where
  pub sizes-refused : well_formed b ≡ false → sizes_told (Err BadSheet) ≡ sizes_asked b
  unfolding sizes_told sizes_asked
  sizes-refused e = sym (checked_refused (form_test b ∷ []) (measured (sheet_in b)) BadSheet (first-here (form_test b) [] (ap not e)))

  pub sizes-told : well_formed b ≡ true → {m : Measures} → m ≡ measured (sheet_in b) → sizes_told (Ok m) ≡ sizes_asked b
  unfolding sizes_told sizes_asked
  sizes-told e f = ap answer f ∙ sym (checked-accepted (form_test b ∷ []) (measured (sheet_in b)) (first_next (form_test b) [] (ap not e) ∙ first-empty))

-- ---- refusals by the outcomes of their tests

pub scalar_tests-is : (P : ℕ) (g : Grid) {count size wrap : Bool} → bad_count P ≡ count → bad_size g.width g.height ≡ size → bad_wrap g.mode ≡ wrap
    → first_of (scalar_tests P g) ≡ cond count 3 (cond size 1 (cond wrap 2 0))
unfolding scalar_tests first_of
scalar_tests-is P g e f h = rw (e, f, h)

pub content_tests-is : (t : Table) (weights : List ℕ) (g : Grid) (forbids : List ℕ) {weight list agreement : Bool} {rest : ℕ} → over_weight weights ≡ weight
    → bad_list t ≡ list → disagree t ≡ agreement → first_of (forbid_tests t g (forbids_of forbids)) ≡ rest
    → first_of (content_tests t weights g forbids) ≡ cond weight 4 (cond list 6 (cond agreement 7 rest))
unfolding content_tests first_of
content_tests-is t weights g forbids e f h i = rw (e, f, h, i)

pub write_misfit-is : (t : Table) (weights forbids : List ℕ) (room : ℕ) {weight offset many short : Bool} → weights_misfit t.count weights ≡ weight
    → offsets_misfit t.count t.offsets ≡ offset → ltb 4096 (records_in forbids) ≡ many
    → ltb room (32 + 6 * t.count + length t.ids + 6 * records_in forbids) ≡ short → write_misfit t weights forbids room ≡ weight || offset || many || short
unfolding write_misfit
write_misfit-is t weights forbids room e f h i = rw (e, f, h, i)

-- the test of the room, by what is left of it
module _ (P ids records room : ℕ) {n : ℕ} (e : n ≡ records) where
  pub room-short : room < 32 + 6 * P + 6 * n → ltb room (32 + 6 * P + ids + 6 * records) ≡ true
  room-short h = lt-ltb room (32 + 6 * P + ids + 6 * records) (omega arith)

  pub room-left : 32 + 6 * P + 6 * n ≤ room → ltb room (32 + 6 * P + ids + 6 * records) ≡ ltb (room - (32 + 6 * P + 6 * n)) ids
  room-left h = go (ltb (room - (32 + 6 * P + 6 * n)) ids) refl
    where
      go : (b : Bool) → ltb (room - (32 + 6 * P + 6 * n)) ids ≡ b → ltb room (32 + 6 * P + ids + 6 * records) ≡ b
      go true f = lt-ltb room (32 + 6 * P + ids + 6 * records) (omega (arith, ltb-true (room - (32 + 6 * P + 6 * n)) ids f))
      go false f = le-ltb room (32 + 6 * P + ids + 6 * records) (omega (arith, ltb-false (room - (32 + 6 * P + 6 * n)) ids f))

-- ---- the first refusal of a sheet's numbers

module _ (misfit : Bool) (t : Table) (weights : List ℕ) (g : Grid) (forbids : List ℕ) where
  sheet-split : first_of (sheet_tests misfit t weights g forbids)
      ≡ cond (eqb (first_of (scalar_tests t.count g)) 0) (cond misfit 5 (first_of (content_tests t weights g forbids))) (first_of (scalar_tests t.count g))
  unfolding sheet_tests first_of
  sheet-split = first-append (scalar_tests t.count g) ((misfit gives BadLength) ∷ content_tests t weights g forbids)

  pub sheet-scalar : {n : ℕ} → n ≡ first_of (scalar_tests t.count g) → (n ≡ 0 → ⊥) → first_of (sheet_tests misfit t weights g forbids) ≡ n
  sheet-scalar {n} e z = sheet-split ∙ rw (sym e, ne_eqb n 0 z)

  pub sheet-length : first_of (scalar_tests t.count g) ≡ 0 → misfit ≡ true → first_of (sheet_tests misfit t weights g forbids) ≡ 5
  sheet-length e m = sheet-split ∙ rw (e, m)

  pub sheet-content : first_of (scalar_tests t.count g) ≡ 0 → misfit ≡ false
      → first_of (sheet_tests misfit t weights g forbids) ≡ first_of (content_tests t weights g forbids)
  sheet-content e m = sheet-split ∙ rw (e, m)

-- ---- write

module _ (t : Table) (weights : List ℕ) (g : Grid) (forbids out : List ℕ) where
  pub write-refused : (r : Refusal) → first_of (write_tests t weights g forbids (length out)) ≡ number r
      → write_outcome (written_told (Err r)) out ≡ write_called t weights g forbids out
  unfolding written_told write_called write_at
  write-refused r e = sym (rw e (go (number r) (number-positive r)))
    where
      go : (n : ℕ) → (n ≡ 0 → ⊥) → write_at n (sheet_for t weights g forbids) out ≡ write_outcome (refused n) out
      go zero z = absurd (z refl)
      go (suc n) z = refl

  pub write-accepted : first_of (write_tests t weights g forbids (length out)) ≡ 0 → length (bytes_of (sheet_for t weights g forbids)) ≤ length out
      → {out' : List ℕ} {n : ℕ} → pen out' n ≡ laid (bytes_of (sheet_for t weights g forbids)) (pen out 0)
      → write_outcome (written_told (Ok n)) out' ≡ write_called t weights g forbids out
  unfolding written_told write_called write_at
  write-accepted e h f =
      ap (λ (p : Pen). write_outcome (answer p.place) p.slice) (f ∙ laid-over (bytes_of (sheet_for t weights g forbids)) out h)
      ∙ sym (rw e)

  -- at each end of `write`
  pub write-scalar : (r : Refusal) → number_of (Err r) ≡ first_of (scalar_tests t.count g)
      → write_outcome (written_told (Err r)) out ≡ write_called t weights g forbids out
  unfolding write_tests
  write-scalar r e =
      write-refused r (sheet-scalar (write_misfit t weights forbids (length out)) t weights g forbids e (number_of-positive r) ∙ number_of-refused r)

  module _ (scalars : first_of (scalar_tests t.count g) ≡ 0) where
    pub write-length : write_misfit t weights forbids (length out) ≡ true → write_outcome (written_told (Err BadLength)) out ≡ write_called t weights g forbids out
    unfolding write_tests number
    write-length m = write-refused BadLength (sheet-length (write_misfit t weights forbids (length out)) t weights g forbids scalars m)

    module _ (lengths : write_misfit t weights forbids (length out) ≡ false) where
      pub write-content : (r : Refusal) → number_of (Err r) ≡ first_of (content_tests t weights g forbids)
          → write_outcome (written_told (Err r)) out ≡ write_called t weights g forbids out
      unfolding write_tests
      write-content r e =
          write-refused r (sheet-content (write_misfit t weights forbids (length out)) t weights g forbids scalars lengths ∙ sym e ∙ number_of-refused r)

      pub write_done : first_of (content_tests t weights g forbids) ≡ 0 → {out' : List ℕ} {n : ℕ}
          → pen out' n ≡ laid (bytes_of (sheet_for t weights g forbids)) (pen out 0) → write_outcome (written_told (Ok n)) out' ≡ write_called t weights g forbids out
      unfolding write_tests
      write_done e f =
          let (S, room) = storable t weights g forbids (length out) scalars lengths e in
          write-accepted (sheet-content (write_misfit t weights forbids (length out)) t weights g forbids scalars lengths ∙ e)
          (omega (arith, fitting-size t weights g forbids S.fitting)) f

-- ---- read

pub read_misfit-is : (m : Measures) (weights offsets ids forbids : ℕ) {weight offset id forbid : Bool} → not (eqb weights m.count) ≡ weight
    → not (eqb offsets (4 * m.count + 1)) ≡ offset → ltb ids m.ids ≡ id → ltb forbids (3 * m.forbids) ≡ forbid
    → read_misfit m weights offsets ids forbids ≡ weight || offset || id || forbid
unfolding read_misfit
read_misfit-is m weights offsets ids forbids e f g h = rw (e, f, g, h)

module _ (b : List ℕ) (l : Lent) where
  read-refused : (r : Refusal) → first_of (read_tests b l) ≡ number r → read_outcome (sizes_told (Err r)) l ≡ read_called b l
  unfolding sizes_told read_called read_at
  read-refused r e = sym (rw e (go (number r) (number-positive r)))
    where
      go : (n : ℕ) → (n ≡ 0 → ⊥) → read_at n (sheet_in b) l ≡ read_outcome (refused n) l
      go zero z = absurd (z refl)
      go (suc n) z = refl

  -- at each end of `read`
  pub read-form : well_formed b ≡ false → read_outcome (sizes_told (Err BadSheet)) l ≡ read_called b l
  unfolding read_tests
  read-form e = read-refused BadSheet (first-here (form_test b) _ (ap not e))

  module _ (e : well_formed b ≡ true) (m : Measures) (f : m ≡ measured (sheet_in b)) where
    misfit : Bool
    misfit = read_misfit (measured (sheet_in b)) (length l.weights) (length l.offsets) (length l.ids) (length l.forbids)

    read_first : first_of (read_tests b l) ≡ first_of (sheet_tests misfit (table_of (sheet_in b)) (sheet_in b).weights (sheet_in b).grid (sheet_in b).forbids)
    unfolding read_tests misfit
    read_first = first_next (form_test b) _ (ap not e)

    scalars-told : {n : ℕ} → n ≡ first_of (scalar_tests m.count (grid m.width m.height m.mode)) → n ≡ first_of (scalar_tests (table_of (sheet_in b)).count (sheet_in b).grid)
    scalars-told g = g ∙ ap first_of (scalars-is (sheet_in b) m f)

    pub read-scalar : (r : Refusal) → number_of (Err r) ≡ first_of (scalar_tests m.count (grid m.width m.height m.mode))
        → read_outcome (sizes_told (Err r)) l ≡ read_called b l
    read-scalar r g =
        read-refused r
        (read_first
        ∙ sheet-scalar misfit (table_of (sheet_in b)) (sheet_in b).weights (sheet_in b).grid (sheet_in b).forbids (scalars-told g) (number_of-positive r)
        ∙ number_of-refused r)

    module _ (scalars : first_of (scalar_tests m.count (grid m.width m.height m.mode)) ≡ 0) where
      scalars_none : first_of (scalar_tests (table_of (sheet_in b)).count (sheet_in b).grid) ≡ 0
      scalars_none = sym (scalars-told (sym scalars))

      misfit_told : {v : Bool} → read_misfit m (length l.weights) (length l.offsets) (length l.ids) (length l.forbids) ≡ v → misfit ≡ v
      unfolding misfit
      misfit_told g = ap (λ (x : Measures). read_misfit x (length l.weights) (length l.offsets) (length l.ids) (length l.forbids)) (sym f) ∙ g

      pub read_length : read_misfit m (length l.weights) (length l.offsets) (length l.ids) (length l.forbids) ≡ true
          → read_outcome (sizes_told (Err BadLength)) l ≡ read_called b l
      unfolding number
      read_length g =
          read-refused BadLength
          (read_first ∙ sheet-length misfit (table_of (sheet_in b)) (sheet_in b).weights (sheet_in b).grid (sheet_in b).forbids scalars_none (misfit_told g))

      module _ (lengths : read_misfit m (length l.weights) (length l.offsets) (length l.ids) (length l.forbids) ≡ false) where
        read-rest : first_of (read_tests b l) ≡ first_of (content_tests (table_of (sheet_in b)) (sheet_in b).weights (sheet_in b).grid (sheet_in b).forbids)
        read-rest =
            read_first ∙ sheet-content misfit (table_of (sheet_in b)) (sheet_in b).weights (sheet_in b).grid (sheet_in b).forbids scalars_none (misfit_told lengths)

        pub read-content : (r : Refusal) → number_of (Err r) ≡ first_of (content_tests (table_of (sheet_in b)) (sheet_in b).weights (sheet_in b).grid (sheet_in b).forbids)
            → read_outcome (sizes_told (Err r)) l ≡ read_called b l
        read-content r g = read-refused r (read-rest ∙ sym g ∙ number_of-refused r)

        pub read_done : first_of (content_tests (table_of (sheet_in b)) (sheet_in b).weights (sheet_in b).grid (sheet_in b).forbids) ≡ 0 → {l' : Lent} → l' ≡ filled (sheet_in b) l
            → read_outcome (sizes_told (Ok m)) l' ≡ read_called b l
        unfolding sizes_told read_called read_at
        read_done g h = (λ j. read_outcome (answer (f j)) (h j)) ∙ sym (rw (read-rest ∙ g))
