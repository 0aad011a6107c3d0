-- A sheet that is refused as 6, 7, 8 or 9 has a place of that kind, and it is the first. Follows docs/RULES.md, "Refusals" and "Programs".
-- Assumes nothing.
use mathlib.Core.Bool.{Bool, true, false, cond, ◌&&◌}
use mathlib.Core.List.{List, ◌∷◌}
use mathlib.Core.Path.{◌≡◌, refl, sym, ◌∙◌}
use Prim.Native.Nat.{ℕ, zero, suc, ◌+◌, ◌*◌, ◌/◌, ◌%◌, ◌≤◌, ◌<◌}
use native.Mathlib.Omega.{arith}
use lib.Dec.{ltb}
use lib.ListN.{length, get_or}
use borrow.Author.Tests.{lt-ltb, le-ltb, le-leb, ltb-true, eqb-true, eqb-false, not-true, not-false}
use Rattle.loops.specs.Tests.{all_to, elem}
use Rattle.directions.specs.Directions.{opposite}
use Rattle.refusals.specs.Refusals.{Test, ◌gives◌, number, first_of}
use Rattle.refusals.specs.declared.Refusal.TheVariants.{BadList, Disagree}
use Rattle.adjacency.specs.Tables.{Table, list_of}
use Rattle.adjacency.specs.Checks.{bad_count, offsets_ok, list_ok, lists_ok, bad_list, agrees_at, agrees, disagree}
use Rattle.adjacency.specs.Lookup.{bad_pattern}
use Rattle.grid.specs.Grid.{Grid, bad_cell}
use Rattle.forbids.specs.Forbids.{place_tests, forbid_tests, forbids_of}
use Rattle.layout.specs.Tables.{table_of}
use Rattle.layout.specs.Reading.{well_formed, sheet_in}
use Rattle.sheet.specs.Called.{form_test, scalar_tests, content_tests, sheet_tests}
use Rattle.bounded.specs.Laid.{sheet_refusal}
use Rattle.faults.specs.Places.{first_failing, First, list_fits, list_agrees, answers, list_place, unanswered, pair_place, judged, forbid_fits, forbid_place, place_at, sheet_place, place_in}
use Rattle.refusals.proofs.RefusalLaws.{first_next}
use Rattle.loops.proofs.TestLaws.{every-fails}
use Rattle.adjacency.proofs.ListLaws.{list_at_of}
use Rattle.adjacency.proofs.AcceptedLaws.{counted}
use Rattle.forbids.proofs.NumberLaws.{refusal_from, refusal-here, refusal_next, refusal-end}
use Rattle.layout.proofs.ShapeLaws.{formed}
use Rattle.faults.proofs.SearchLaws.{search_first, search_some, search_all}
use Rattle.faults.proofs.SheetLaws.{sheet-offsets}
use Rattle.faults.specs.declared.inner.Place.TheVariants as at

-- ---- where a number is given, the tests before its own do not hold

record FirstIs (ts : List Test) (n : ℕ) : Type 0 where
  by : first_of ts ≡ n

other : (k : ℕ) {t : Test} {ts : List Test} {n : ℕ} → FirstIs (t ∷ ts) n → number t.refusal ≡ k → (k ≡ n → ⊥) → (t.holds ≡ false) × FirstIs ts n
unfolding first_of
other k {t} {ts} {n} e is differs = go t.holds refl e.by
  where
    go : (b : Bool) → t.holds ≡ b → cond b (number t.refusal) (first_of ts) ≡ n → (t.holds ≡ false) × FirstIs ts n
    go true h f = absurd (differs (sym is ∙ f))
    go false h f = (h, record { by = f })

past : {t : Test} {ts : List Test} {n : ℕ} → FirstIs (t ∷ ts) n → t.holds ≡ false → FirstIs ts n
past {t} {ts} e h = record { by = sym (first_next t ts h) ∙ e.by }

-- ---- forbids

module _ (t : Table) (g : Grid) (ns : List ℕ) where
  own : (i : ℕ) → judged t.count g ns i ≡ first_of (place_tests t.count g (get_or ns (3 * i) 0) (get_or ns (3 * i + 1) 0))
  unfolding judged
  own i = refl

  -- the refusal of all is that of the record that is found
  forbids-found : (m i : ℕ) → i + m ≡ length ns / 3
      → refusal_from t g ns i ≡ cond (ltb (first_failing (forbid_fits t.count g ns) i m) (length ns / 3)) (judged t.count g ns (first_failing (forbid_fits t.count g ns) i m)) 0
  unfolding first_failing
  forbids-found zero i e = sym (refusal-end t g ns i (omega arith)) ∙ sym (rw (le-ltb i (length ns / 3) (omega arith)))
  forbids-found (suc m) i e = go (forbid_fits t.count g ns i) refl (forbids-found m (suc i) (omega arith))
    where
      n : ℕ
      n = length ns / 3

      rest : ℕ
      rest = first_failing (forbid_fits t.count g ns) (suc i) m

      go : (b : Bool) → forbid_fits t.count g ns i ≡ b → refusal_from t g ns (suc i) ≡ cond (ltb rest n) (judged t.count g ns rest) 0
          → refusal_from t g ns i ≡ cond (ltb (cond b rest i) n) (judged t.count g ns (cond b rest i)) 0
      go true h later = refusal_next t g ns i (omega arith) (own i) (eqb-true _ _ h) ∙ later
      go false h later = sym (refusal-here t g ns i (omega arith) (own i) (eqb-false _ _ h)) ∙ sym (rw (lt-ltb i n (omega arith)))

  -- so a refusal is that of the first record that is refused
  abbrev first_bad : ℕ
  first_bad = first_failing (forbid_fits t.count g ns) 0 (length ns / 3)

  forbid-first : {n : ℕ} → first_of (forbid_tests t g (forbids_of ns)) ≡ suc n → First (forbid_fits t.count g ns) (length ns / 3) first_bad × (judged t.count g ns first_bad ≡ suc n)
  forbid-first {n} e = go (ltb first_bad (length ns / 3)) refl (sym (forbids-found (length ns / 3) 0 (omega arith)) ∙ e)
    where
      go : (b : Bool) → ltb first_bad (length ns / 3) ≡ b → cond b (judged t.count g ns first_bad) 0 ≡ suc n
          → First (forbid_fits t.count g ns) (length ns / 3) first_bad × (judged t.count g ns first_bad ≡ suc n)
      go true h f = (search_first (forbid_fits t.count g ns) (length ns / 3) (ltb-true _ _ h), f)
      go false h f = absurd (omega arith)

  -- and it is 8 or 9
  judged-kind : (i : ℕ) {n : ℕ} → judged t.count g ns i ≡ suc n → suc n < 8 → ⊥
  unfolding judged first_of place_tests number
  judged-kind i {n} = go (bad_cell g (get_or ns (3 * i) 0)) (bad_pattern t.count (get_or ns (3 * i + 1) 0))
    where
      go : (cell pattern : Bool) → cond cell 8 (cond pattern 9 0) ≡ suc n → suc n < 8 → ⊥
      go true pattern e h = omega arith
      go false true e h = omega arith
      go false false e h = omega arith

  forbid-kind : {n : ℕ} → first_of (forbid_tests t g (forbids_of ns)) ≡ suc n → suc n < 8 → ⊥
  forbid-kind e h = judged-kind first_bad (forbid-first e).1 h

-- ---- a sheet

module _ (b : List ℕ) where
  abbrev table : Table
  table = table_of (sheet_in b)

  abbrev forbids : List ℕ
  forbids = (sheet_in b).forbids

  -- what is left of the tests where it is refused as 6, 7, 8 or 9
  abbrev last : List Test
  last = (bad_list table gives BadList) ∷ (disagree table gives Disagree) ∷ forbid_tests table (sheet_in b).grid (forbids_of forbids)

  reached : {n : ℕ} → 6 ≤ n → n ≤ 9 → sheet_refusal b ≡ n → (well_formed b ≡ true) × (bad_count table.count ≡ false) × FirstIs last n
  unfolding sheet_refusal sheet_tests scalar_tests content_tests number
  reached {n} low high e =
      let all : FirstIs (form_test b ∷ sheet_tests false table (sheet_in b).weights (sheet_in b).grid forbids) n = record { by = e } in
      let (form, after-form) = other 10 all refl (λ z. omega arith) in
      let (count, after-count) = other 3 after-form refl (λ z. omega arith) in
      let (size, after-size) = other 1 after-count refl (λ z. omega arith) in
      let (wrap, after-wrap) = other 2 after-size refl (λ z. omega arith) in
      let (fit, after-length) = other 5 after-wrap refl (λ z. omega arith) in
      let (weight, after-weights) = other 4 after-length refl (λ z. omega arith) in
      (not-false _ form, count, after-weights)

  placed : (number : ℕ) → well_formed b ≡ true → bad_count table.count ≡ false → place_in number b ≡ place_at number table (sheet_in b).grid forbids
  unfolding place_in sheet_place table_of
  placed number w c = rw (w, le-leb (length (sheet_in b).weights) 64 (counted (length (sheet_in b).weights) c).1)

  -- 6: the first list that is not as it must be
  pub list-placed : sheet_refusal b ≡ 6 → (k : ℕ) × First (list_fits table) (4 * table.count) k × (place_in 6 b ≡ at.List (k / 4) (k % 4))
  unfolding place_at list_place bad_list lists_ok number
  list-placed e =
      let (w, c, r) = reached (omega arith) (omega arith) e in
      let k = first_failing (list_fits table) 0 (4 * table.count) in
      let within = search_all (list_fits table) (4 * table.count) (bad w (bad_list table) refl r) in
      (k, search_first (list_fits table) (4 * table.count) within, placed 6 w c ∙ rw (lt-ltb k (4 * table.count) within))
    where
      bad : well_formed b ≡ true → (v : Bool) → bad_list table ≡ v → FirstIs last 6 → all_to (4 * table.count) (list_fits table) ≡ false
      bad w false h r =
          let (agree, rest) = other 7 (past r h) refl (λ z. omega arith) in
          absurd (forbid-kind table (sheet_in b).grid forbids rest.by (omega arith))
      bad w true h r =
          let lists : lists_ok table ≡ false = rw (sheet-offsets b (formed b w)) at (not-true (offsets_ok table && lists_ok table) h) in
          sym (λ j. all_to (4 * table.count) (λ k. list_ok table.count (list_at_of table k j))) ∙ lists

  -- 7: the first list that disagrees, and its first id that does
  pub pair-placed : sheet_refusal b ≡ 7
      → (k : ℕ) × (i : ℕ) × First (list_agrees table) (4 * table.count) k × First (answers table (k / 4) (k % 4)) (length (list_of table (k / 4) (k % 4))) i
      × (place_in 7 b ≡ at.Pair (k / 4) (k % 4) (get_or (list_of table (k / 4) (k % 4)) i 0))
  unfolding place_at pair_place unanswered disagree agrees agrees_at number
  pair-placed e =
      let (w, c, r) = reached (omega arith) (omega arith) e in
      let (list, rest) = other 6 r refl (λ z. omega arith) in
      let k = first_failing (list_agrees table) 0 (4 * table.count) in
      let l = list_of table (k / 4) (k % 4) in
      let i = first_failing (answers table (k / 4) (k % 4)) 0 (length l) in
      let within = search_all (list_agrees table) (4 * table.count) (apart (disagree table) refl rest) in
      let found = search_first (list_agrees table) (4 * table.count) within in
      let (j, inside, lacks) = every-fails (λ q. elem (k / 4) (list_of table q (opposite (k % 4)))) l found.fails in
      let one = search_first (answers table (k / 4) (k % 4)) (length l) (search_some (answers table (k / 4) (k % 4)) (length l) j inside lacks) in
      (k, i, found, one, placed 7 w c ∙ rw (list, lt-ltb k (4 * table.count) within))
    where
      apart : (v : Bool) → disagree table ≡ v → FirstIs ((disagree table gives Disagree) ∷ forbid_tests table (sheet_in b).grid (forbids_of forbids)) 7
          → all_to (4 * table.count) (list_agrees table) ≡ false
      apart false h r = absurd (forbid-kind table (sheet_in b).grid forbids (past r h).by (omega arith))
      apart true h r = not-true (agrees table) h

  -- 8 and 9: the first record that is refused, which is refused so
  record-found : {n : ℕ} → 8 ≤ n → n ≤ 9 → sheet_refusal b ≡ n → let i = first_bad table (sheet_in b).grid forbids in
      First (forbid_fits table.count (sheet_in b).grid forbids) (length forbids / 3) i × (judged table.count (sheet_in b).grid forbids i ≡ n)
      × (place_in n b ≡ place_at n table (sheet_in b).grid forbids)
  unfolding number
  record-found {n = zero} low high e = absurd (omega arith)
  record-found {n = suc n} low high e =
      let (w, c, r) = reached (omega arith) high e in
      let (list, after-lists) = other 6 r refl (λ z. omega arith) in
      let (agree, rest) = other 7 after-lists refl (λ z. omega arith) in
      let (first, same) = forbid-first table (sheet_in b).grid forbids rest.by in
      (first, same, placed (suc n) w c)

  pub cell-placed : sheet_refusal b ≡ 8 → (i : ℕ) × First (forbid_fits table.count (sheet_in b).grid forbids) (length forbids / 3) i
      × (judged table.count (sheet_in b).grid forbids i ≡ 8) × (place_in 8 b ≡ at.Cell i (get_or forbids (3 * i) 0))
  unfolding place_at forbid_place
  cell-placed e =
      let (first, same, place) = record-found (omega arith) (omega arith) e in
      (first_bad table (sheet_in b).grid forbids, first, same, place ∙ rw (lt-ltb _ _ first.inside, same))

  pub pattern-placed : sheet_refusal b ≡ 9 → (i : ℕ) × First (forbid_fits table.count (sheet_in b).grid forbids) (length forbids / 3) i
      × (judged table.count (sheet_in b).grid forbids i ≡ 9) × (place_in 9 b ≡ at.Pattern i (get_or forbids (3 * i + 1) 0))
  unfolding place_at forbid_place
  pattern-placed e =
      let (first, same, place) = record-found (omega arith) (omega arith) e in
      (first_bad table (sheet_in b).grid forbids, first, same, place ∙ rw (lt-ltb _ _ first.inside, same))
