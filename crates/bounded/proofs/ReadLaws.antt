-- Laws of a sheet that is read into memory for every one of up to 64 patterns: its own refusals are all that is left, and what stands where it was read.
-- Assumes nothing.
use mathlib.Core.Bool.{Bool, true, false, not, cond}
use mathlib.Core.List.{List, ◌∷◌, ◌++◌}
use mathlib.Core.Path.{◌≡◌, refl, sym, ap, ◌∙◌}
use Prim.Native.Nat.{ℕ, zero, suc, ◌+◌, ◌-◌, ◌*◌, ◌≤◌, ◌<◌}
use native.Mathlib.Omega.{arith}
use lib.ListN.{length, take, drop, length-take, length-drop, take-append-drop}
use borrow.Author.Tests.{le-ltb, eq-eqb, not-false}
use Rattle.records.specs.Laying.{over}
use Rattle.records.specs.Numbers.{u32_at}
use Rattle.records.specs.Records.{payload_of, rest_of}
use Rattle.refusals.specs.declared.Refusal.{Refusal}
use Rattle.refusals.specs.declared.Refusal.TheVariants.{BadSheet, BadCount}
use Rattle.refusals.specs.Refusals.{Asked, refused, answer, number, first_of}
use Rattle.layout.specs.Tables.{table_of}
use Rattle.layout.specs.Reading.{from_lists, well_formed, sheet_in}
use Rattle.layout.specs.Lending.{Lent, lent, filled}
use Rattle.sheet.specs.declared.Measures.{Measures}
use Rattle.std.specs.Prelude.{Result, Ok, Err}
use Rattle.sheet.specs.Called.{scalar_tests, content_tests, sheet_tests, form_test, measured, sizes_told, sizes_asked, read_misfit, read_tests, ReadOutcome, read_outcome, read_at, read_called}
use Rattle.bounded.specs.Laid.{sheet_refusal, Held, Reads}
use Rattle.records.proofs.LayingLaws.{over-whole}
use Rattle.refusals.proofs.RefusalLaws.{number-positive, first_next, first-passed}
use Rattle.layout.proofs.ShapeLaws.{Formed, formed}
use Rattle.layout.proofs.ReadingLaws.{ids-is}
use Rattle.sheet.proofs.MeasureLaws.{Known, known, Parts, read-parts}
use Rattle.sheet.proofs.CalledLaws.{sizes-refused, sizes-told, read_misfit-is}
use Rattle.sheet.proofs.RoundLaws.{sheet-passed}
use Rattle.bounded.proofs.HeldLaws.{refusal-form, refusal_next, refusal-many, held_whole, held-long}

-- ---- what an answer says of the sheet

-- the number of a refusal, 0 for none, and what an answer holds
refusal_in : {A : Type 0} → Asked A → ℕ
refusal_in (answer x) = 0
refusal_in (refused n) = n

within : {A : Type 0} → A → Asked A → A
within d (answer x) = x
within d (refused n) = d

module _ (b : List ℕ) where
  pub sizes_none : (l : Lent) {a : Result Measures Refusal} (r : Refusal) → a ≡ Err r → sizes_told a ≡ sizes_asked b → read_outcome (sizes_told (Err r)) l ≡ read_at (sheet_refusal b) (sheet_in b) l
  unfolding sizes_told refusal_in read_at number
  sizes_none l r is f = go (well_formed b) refl
    where
      e : sizes_told (Err r) ≡ sizes_asked b
      e = ap sizes_told (sym is) ∙ f

      go : (v : Bool) → well_formed b ≡ v → read_outcome (sizes_told (Err r)) l ≡ read_at (sheet_refusal b) (sheet_in b) l
      go true w = absurd (number-positive r (ap refusal_in (e ∙ sym (sizes-told b w refl))))
      go false w =
          ap (λ (a : Asked Measures). read_outcome a l) (e ∙ sym (sizes-refused b w)) ∙ ap (λ (n : ℕ). read_at n (sheet_in b) l) (sym (refusal-form b w))

  pub sizes-some : {a : Result Measures Refusal} (m : Measures) → a ≡ Ok m → sizes_told a ≡ sizes_asked b → (well_formed b ≡ true) × (m ≡ measured (sheet_in b))
  unfolding sizes_told refusal_in within number
  sizes-some m is f = go (well_formed b) refl
    where
      e : sizes_told (Ok m) ≡ sizes_asked b
      e = ap sizes_told (sym is) ∙ f

      go : (v : Bool) → well_formed b ≡ v → (well_formed b ≡ true) × (m ≡ measured (sheet_in b))
      go true w = (w, ap (within m) (e ∙ sym (sizes-told b w refl)))
      go false w = absurd (number-positive BadSheet (ap refusal_in (sizes-refused b w ∙ sym e)))

  -- ---- what is told of what was read

  -- a refusal is the sheet's own
  pub read_number : (l l' : Lent) {a : Result Measures Refusal} (r : Refusal) → a ≡ Err r → read_outcome (sizes_told a) l' ≡ read_at (sheet_refusal b) (sheet_in b) l
      → sheet_refusal b ≡ number r
  unfolding sizes_told refusal_in read_at
  read_number l l' r is e = go (sheet_refusal b) refl (ap (λ (a : Result Measures Refusal). read_outcome (sizes_told a) l') (sym is) ∙ e)
    where
      go : (n : ℕ) → sheet_refusal b ≡ n → read_outcome (refused (number r)) l' ≡ read_at n (sheet_in b) l → sheet_refusal b ≡ number r
      go zero q e = absurd (number-positive r (ap (λ (o : ReadOutcome). refusal_in o.told) e))
      go (suc n) q e = q ∙ sym (ap (λ (o : ReadOutcome). refusal_in o.told) e)

  -- an answer says that nothing is refused, how much the sheet holds, and what was read
  pub read_answer : (l l' : Lent) {a : Result Measures Refusal} (m : Measures) → a ≡ Ok m → read_outcome (sizes_told a) l' ≡ read_at (sheet_refusal b) (sheet_in b) l
      → (sheet_refusal b ≡ 0) × (m ≡ measured (sheet_in b)) × (l' ≡ filled (sheet_in b) l)
  unfolding sizes_told refusal_in within read_at
  read_answer l l' m is e = go (sheet_refusal b) refl (ap (λ (a : Result Measures Refusal). read_outcome (sizes_told a) l') (sym is) ∙ e)
    where
      go : (n : ℕ) → sheet_refusal b ≡ n → read_outcome (answer m) l' ≡ read_at n (sheet_in b) l
          → (sheet_refusal b ≡ 0) × (m ≡ measured (sheet_in b)) × (l' ≡ filled (sheet_in b) l)
      go zero q e = (q, ap (λ (o : ReadOutcome). within m o.told) e, ap (λ (o : ReadOutcome). o.lent) e)
      go (suc n) q e = absurd (omega (arith, ap (λ (o : ReadOutcome). refusal_in o.told) e))

-- ---- what is told of what is held

module _ {b kept : List ℕ} {judged : Bool} (H : Held b kept judged) (l : Lent) where
  -- more bytes than are read are refused by what is known of the whole
  pub read-long : 90272 < length kept → {r : Refusal} → r ≡ cond judged BadCount BadSheet → read_outcome (sizes_told (Err r)) l ≡ read_at (sheet_refusal b) (sheet_in b) l
  unfolding sizes_told read_at number
  read-long h e =
      ap (λ (r : Refusal). read_outcome (sizes_told (Err r)) l) e ∙ go judged ∙ ap (λ (n : ℕ). read_at n (sheet_in b) l) (sym (held-long H h))
    where
      go : (v : Bool) → read_outcome (sizes_told (Err (cond v BadCount BadSheet))) l ≡ read_at (cond v 3 10) (sheet_in b) l
      go true = refl
      go false = refl

  -- others are the whole
  pub read_short : length kept ≤ 90272 → read_at (sheet_refusal kept) (sheet_in kept) l ≡ read_at (sheet_refusal b) (sheet_in b) l
  read_short h = ap (λ (x : List ℕ). read_at (sheet_refusal x) (sheet_in x) l) (held_whole H h)

-- ---- what is lent

-- the ids of a sheet are among its bytes
ids-within : (b : List ℕ) → Formed b → length (table_of (sheet_in b)).ids ≤ length b
unfolding table_of payload_of rest_of
ids-within b F =
    omega (arith, ids-is b F, length-take (u32_at (from_lists b) 0 - 2) (drop 6 (from_lists b)), length-drop 6 (from_lists b), length-drop (4 + u32_at b 0) b)

-- a part is written whole, and the rest stays
over-part : (new old : List ℕ) (n : ℕ) → length new ≡ n → n ≤ length old → over new (take n old) ++ drop n old ≡ over new old
unfolding over
over-part new old n e h =
    ap (λ (l : List ℕ). l ++ drop n old) (over-whole new (take n old) (omega (arith, length-take n old))) ∙ ap (λ (k : ℕ). new ++ drop k old) (sym e)

module _ (b : List ℕ) (m : Measures) (w : well_formed b ≡ true) (e : m ≡ measured (sheet_in b)) where
  held : Known (sheet_in b) m
  held = known b (formed b w) m e

  -- over 64 patterns is 3
  pub read-many : (l : Lent) → 64 < m.count → read_outcome (sizes_told (Err BadCount)) l ≡ read_at (sheet_refusal b) (sheet_in b) l
  unfolding sizes_told number read_at
  read-many l h = ap (λ (n : ℕ). read_at n (sheet_in b) l) (sym (refusal-many b w (omega (arith, held.count_same))))

  module _ (short : length b ≤ 90272) (weights offsets ids forbids : List ℕ) (R : Reads weights offsets ids forbids) (few : m.count ≤ 64) where
    abbrev part : Lent
    part = lent (take m.count weights) (take (4 * m.count + 1) offsets) ids forbids

    misfit_none : read_misfit (measured (sheet_in b)) (length (take m.count weights)) (length (take (4 * m.count + 1) offsets)) (length ids) (length forbids) ≡ false
    misfit_none =
        ap (λ (x : Measures). read_misfit x (length (take m.count weights)) (length (take (4 * m.count + 1) offsets)) (length ids) (length forbids)) (sym e)
        ∙ read_misfit-is m (length (take m.count weights)) (length (take (4 * m.count + 1) offsets)) (length ids) (length forbids)
        (ap not (eq-eqb (length (take m.count weights)) m.count (omega (arith, length-take m.count weights, R.weights_long))))
        (ap not (eq-eqb (length (take (4 * m.count + 1) offsets)) (4 * m.count + 1) (omega (arith, length-take (4 * m.count + 1) offsets, R.offsets_long))))
        (le-ltb (length ids) m.ids (omega (arith, held.ids_same, ids-within b (formed b w), R.ids_long)))
        (le-ltb (length forbids) (3 * m.forbids) (omega (arith, held.less, R.forbids_long)))

    -- lent so, the sheet's own refusals are all there are
    first-lent : first_of (read_tests b part) ≡ sheet_refusal b
    unfolding read_tests
    first-lent =
        let s = sheet_in b in
        first_next (form_test b) (sheet_tests (read_misfit (measured s) (length (take m.count weights)) (length (take (4 * m.count + 1) offsets)) (length ids) (length forbids)) (table_of s) s.weights s.grid s.forbids) (ap not w)
        ∙ ap (λ (v : Bool). first_of (sheet_tests v (table_of s) s.weights s.grid s.forbids)) misfit_none
        ∙ sym (refusal_next b w)

    -- what a call of `read` leaves in the whole of the memory
    pub read_whole : {told : Asked Measures} {weights' offsets' ids' forbids' : List ℕ} → read_outcome told (lent weights' offsets' ids' forbids') ≡ read_called b part
        → read_outcome told (lent (weights' ++ drop m.count weights) (offsets' ++ drop (4 * m.count + 1) offsets) ids' forbids')
        ≡ read_at (sheet_refusal b) (sheet_in b) (lent weights offsets ids forbids)
    unfolding read_called read_at filled
    read_whole q = ap whole (q ∙ ap (λ (n : ℕ). read_at n (sheet_in b) part) first-lent) ∙ go (sheet_refusal b)
      where
        whole : ReadOutcome → ReadOutcome
        whole o =
            read_outcome o.told
            (lent (o.lent.weights ++ drop m.count weights) (o.lent.offsets ++ drop (4 * m.count + 1) offsets) o.lent.ids o.lent.forbids)

        go : (n : ℕ) → whole (read_at n (sheet_in b) part) ≡ read_at n (sheet_in b) (lent weights offsets ids forbids)
        go zero =
            let s = sheet_in b in
            let first = over-part s.weights weights m.count held.count_same (omega (arith, R.weights_long)) in
            let second = over-part (table_of s).offsets offsets (4 * m.count + 1) held.offsets_same (omega (arith, R.offsets_long)) in
            λ j. read_outcome (answer (measured s)) (lent (first j) (second j) (over (table_of s).ids ids) (over s.forbids forbids))
        go (suc n) =
            λ j. read_outcome (refused (suc n)) (lent (take-append-drop m.count weights j) (take-append-drop (4 * m.count + 1) offsets j) ids forbids)

-- ---- what was read, where nothing is refused

pub record Stored (b : List ℕ) (m : Measures) (weights offsets ids forbids : List ℕ) : Type 0 where
  pub known : Known (sheet_in b) m
  pub parts : Parts (sheet_in b) m weights offsets ids forbids
  pub scalars : first_of (scalar_tests (table_of (sheet_in b)).count (sheet_in b).grid) ≡ 0
  pub content : first_of (content_tests (table_of (sheet_in b)) (sheet_in b).weights (sheet_in b).grid (sheet_in b).forbids) ≡ 0

pub stored : (b : List ℕ) (m : Measures) (l : Lent) {weights offsets ids forbids : List ℕ} → sheet_refusal b ≡ 0 → m ≡ measured (sheet_in b)
    → lent weights offsets ids forbids ≡ filled (sheet_in b) l → Stored b m weights offsets ids forbids
unfolding sheet_refusal
stored b m l none e f =
    let s = sheet_in b in
    let tests = sheet_tests false (table_of s) s.weights s.grid s.forbids in
    let w : well_formed b ≡ true = not-false (well_formed b) (first-passed (form_test b ∷ tests) none).0 in
    let (scalars, lengths, content) = sheet-passed false (table_of s) s.weights s.grid s.forbids (sym (refusal_next b w) ∙ none) in
    let K = known b (formed b w) m e in
    record { known = K; parts = read-parts s m K l f; scalars = scalars; content = content }
