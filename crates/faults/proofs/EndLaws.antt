-- Laws of each end of the functions: what is found, by what the searches answered.
-- Assumes nothing.
use mathlib.Core.Bool.{Bool, true, false, cond, ◌&&◌, false≢true}
use mathlib.Core.List.{List}
use mathlib.Core.Logic.{◌⊎◌, inl, inr}
use mathlib.Core.Path.{◌≡◌, refl, sym, ap, subst, ◌∙◌}
use Prim.Native.Nat.{ℕ, ◌+◌, ◌*◌, ◌/◌, ◌%◌, ◌≤◌, ◌<◌}
use native.Mathlib.Omega.{arith}
use lib.Dec.{leb}
use lib.ListN.{length, get_or}
use borrow.Author.Tests.{lt-ltb, le-ltb, lt-leb, le-leb, eq-eqb, ne_eqb}
use Rattle.refusals.specs.declared.Refusal.{Refusal}
use Rattle.refusals.specs.declared.Refusal.TheVariants.{BadSize, BadWrap, BadCount, BadWeights, BadLength, BadList, Disagree, BadCell, BadPattern, BadSheet, BadDirection}
use Rattle.refusals.specs.Refusals.{number, number_of, first_of, Asked, refused, answer}
use Rattle.adjacency.specs.Tables.{Table, table, list_of}
use Rattle.adjacency.specs.Checks.{bad_list}
use Rattle.adjacency.specs.Accepted.{Laid}
use Rattle.grid.specs.Grid.{Grid, grid}
use Rattle.forbids.specs.Forbids.{place_tests}
use Rattle.layout.specs.Sheet.{Sheet}
use Rattle.layout.specs.Tables.{table_of}
use Rattle.layout.specs.Reading.{well_formed, sheet_in}
use Rattle.sheet.specs.declared.Measures.{Measures}
use Rattle.std.specs.Prelude.{Result, Ok, Err, is_ok}
use Rattle.sheet.specs.Called.{measured, sizes_told, sizes_asked}
use Rattle.faults.specs.Places.{first_failing, list_fits, list_agrees, answers_in, list_place, unanswered, pair_place, judged, forbid_fits, forbid_place, place_at, sheet_place, place_in}
use Rattle.refusals.proofs.RefusalLaws.{number-positive}
use Rattle.sheet.proofs.CalledLaws.{sizes-told}
use Rattle.faults.specs.declared.inner.Place.TheVariants as at

-- ---- lists

module _ (t : Table) {k : ℕ} (e : k ≡ first_failing (list_fits t) 0 (4 * t.count)) where
  pub list-some : k < 4 * t.count → at.List (k / 4) (k % 4) ≡ list_place t
  unfolding list_place
  list-some h =
      let K = first_failing (list_fits t) 0 (4 * t.count) in
      ap (λ (n : ℕ). at.List (n / 4) (n % 4)) e ∙ sym (rw (lt-ltb K (4 * t.count) (omega arith)))

  pub list_none : 4 * t.count ≤ k → at.Nowhere ≡ list_place t
  unfolding list_place
  list_none h =
      let K = first_failing (list_fits t) 0 (4 * t.count) in
      sym (rw (le-ltb K (4 * t.count) (omega arith)))

-- ---- agreement

-- the id at the place that the search found
pub unanswered-is : (t : Table) (p d : ℕ) {l : List ℕ} {i q : ℕ} → l ≡ list_of t p d → i ≡ first_failing (answers_in t p d l) 0 (length l) → q ≡ get_or l i 0 → q ≡ unanswered t p d
unfolding unanswered
unanswered-is t p d {l} e f g = g ∙ ap (λ (n : ℕ). get_or l n 0) f ∙ ap (λ (x : List ℕ). get_or x (first_failing (answers_in t p d x) 0 (length x)) 0) e

pub pair-bad : (t : Table) → bad_list t ≡ true → at.Nowhere ≡ pair_place t
unfolding pair_place
pair-bad t e = sym (rw e)

module _ (t : Table) (good : bad_list t ≡ false) {k : ℕ} (e : k ≡ first_failing (list_agrees t) 0 (4 * t.count)) where
  pub pair-some : k < 4 * t.count → {q : ℕ} → q ≡ unanswered t (k / 4) (k % 4) → at.Pair (k / 4) (k % 4) q ≡ pair_place t
  unfolding pair_place
  pair-some h f =
      let K = first_failing (list_agrees t) 0 (4 * t.count) in
      ap (at.Pair (k / 4) (k % 4)) f ∙ ap (λ (n : ℕ). at.Pair (n / 4) (n % 4) (unanswered t (n / 4) (n % 4))) e
      ∙ sym (rw (good, lt-ltb K (4 * t.count) (omega arith)))

  pub pair_none : 4 * t.count ≤ k → at.Nowhere ≡ pair_place t
  unfolding pair_place
  pair_none h =
      let K = first_failing (list_agrees t) 0 (4 * t.count) in
      sym (rw (good, le-ltb K (4 * t.count) (omega arith)))

-- ---- forbids

module _ (P : ℕ) (g : Grid) (ns : List ℕ) (i : ℕ) {n : ℕ} (e : n ≡ first_of (place_tests P g (get_or ns (3 * i) 0) (get_or ns (3 * i + 1) 0))) where
  pub forbid-fails : (n ≡ 0 → ⊥) → forbid_fits P g ns i ≡ false
  unfolding judged
  forbid-fails h = ne_eqb _ 0 (λ z. h (e ∙ z))

  pub forbid-passes : n ≡ 0 → forbid_fits P g ns i ≡ true
  unfolding judged
  forbid-passes z = eq-eqb _ 0 (sym e ∙ z)

-- it fits where its judgement accepts it
pub forbid-judged : (P : ℕ) (g : Grid) (ns : List ℕ) (i : ℕ) (r : Result (Unit {0}) Refusal) → number_of r ≡ first_of (place_tests P g (get_or ns (3 * i) 0) (get_or ns (3 * i + 1) 0))
    → is_ok r ≡ forbid_fits P g ns i
unfolding number_of
forbid-judged P g ns i (Ok u) e = sym (forbid-passes P g ns i e refl)
forbid-judged P g ns i (Err r) e = sym (forbid-fails P g ns i e (number-positive r))

module _ (P : ℕ) (g : Grid) (ns : List ℕ) {i : ℕ} (e : i ≡ first_failing (forbid_fits P g ns) 0 (length ns / 3)) where
  abbrev K : ℕ
  K = first_failing (forbid_fits P g ns) 0 (length ns / 3)

  module _ (h : i < length ns / 3) {n : ℕ} (f : n ≡ first_of (place_tests P g (get_or ns (3 * i) 0) (get_or ns (3 * i + 1) 0))) where
    same : n ≡ judged P g ns K
    unfolding judged
    same = f ∙ ap (judged P g ns) e

    pub forbid-cell : n ≡ 8 → {c : ℕ} → c ≡ get_or ns (3 * i) 0 → at.Cell i c ≡ forbid_place P g ns
    unfolding forbid_place
    forbid-cell z w =
        ap (at.Cell i) w ∙ ap (λ (j : ℕ). at.Cell j (get_or ns (3 * j) 0)) e
        ∙ sym (rw (lt-ltb K (length ns / 3) (omega arith), eq-eqb (judged P g ns K) 8 (sym same ∙ z)))

    pub forbid-pattern : (n ≡ 8 → ⊥) → {p : ℕ} → p ≡ get_or ns (3 * i + 1) 0 → at.Pattern i p ≡ forbid_place P g ns
    unfolding forbid_place
    forbid-pattern z w =
        ap (at.Pattern i) w ∙ ap (λ (j : ℕ). at.Pattern j (get_or ns (3 * j + 1) 0)) e
        ∙ sym (rw (lt-ltb K (length ns / 3) (omega arith), ne_eqb (judged P g ns K) 8 (λ y. z (same ∙ y))))

  pub forbid_none : length ns / 3 ≤ i → at.Nowhere ≡ forbid_place P g ns
  unfolding forbid_place
  forbid_none h = sym (rw (le-ltb K (length ns / 3) (omega arith)))

-- ---- by the refusal

module _ (r : Refusal) (t : Table) (g : Grid) (ns : List ℕ) where
  pub at-list : r ≡ BadList → list_place t ≡ place_at (number r) t g ns
  unfolding place_at number
  at-list e = sym (ap (λ (x : Refusal). place_at (number x) t g ns) e)

  pub at_pair : r ≡ Disagree → pair_place t ≡ place_at (number r) t g ns
  unfolding place_at number
  at_pair e = sym (ap (λ (x : Refusal). place_at (number x) t g ns) e)

  pub at-forbid : (r ≡ BadCell) ⊎ (r ≡ BadPattern) → forbid_place t.count g ns ≡ place_at (number r) t g ns
  unfolding place_at number
  at-forbid (inl e) = sym (ap (λ (x : Refusal). place_at (number x) t g ns) e)
  at-forbid (inr e) = sym (ap (λ (x : Refusal). place_at (number x) t g ns) e)

-- the others have no place
pub at_none : (r : Refusal) (t : Table) (g : Grid) (ns : List ℕ) → (r ≡ BadList → ⊥) → (r ≡ Disagree → ⊥) → (r ≡ BadCell → ⊥) → (r ≡ BadPattern → ⊥)
    → at.Nowhere ≡ place_at (number r) t g ns
unfolding place_at number
at_none BadSize t g ns a b c d = refl
at_none BadWrap t g ns a b c d = refl
at_none BadCount t g ns a b c d = refl
at_none BadWeights t g ns a b c d = refl
at_none BadLength t g ns a b c d = refl
at_none BadList t g ns a b c d = absurd (a refl)
at_none Disagree t g ns a b c d = absurd (b refl)
at_none BadCell t g ns a b c d = absurd (c refl)
at_none BadPattern t g ns a b c d = absurd (d refl)
at_none BadSheet t g ns a b c d = refl
at_none BadDirection t g ns a b c d = refl

-- and no more has a number that no refusal has
pub at_unnamed : (n : ℕ) (t : Table) (g : Grid) (ns : List ℕ) → (n ≡ 0) ⊎ (11 < n) → at.Nowhere ≡ place_at n t g ns
unfolding place_at
at_unnamed n t g ns (inl e) = sym (ap (λ (k : ℕ). place_at k t g ns) e)
at_unnamed n t g ns (inr h) = sym (rw (ne_eqb n 6 (λ e. omega (arith, e, h)), ne_eqb n 7 (λ e. omega (arith, e, h)), le-leb 8 n (omega arith), lt-leb n 9 (omega arith)))

-- ---- a sheet

-- what was read is its table, its grid and its forbids
module _ (s : Sheet) (m : Measures) (e : m ≡ measured s) {offsets ids : List ℕ} (f : offsets ≡ (table_of s).offsets) (g : ids ≡ (table_of s).ids) where
  table-read : table_of s ≡ table m.count offsets ids
  unfolding measured table_of
  table-read = λ j. table (sym e j).count (sym f j) (sym g j)

  pub laid-read : Laid (table_of s) → Laid (table m.count offsets ids)
  laid-read L = subst Laid table-read L

  pub place_read : (n : ℕ) {forbids : List ℕ} → forbids ≡ s.forbids → place_at n (table m.count offsets ids) (grid m.width m.height m.mode) forbids ≡ sheet_place n s
  unfolding sheet_place measured table_of
  place_read n h = λ j. place_at n (table (e j).count (f j) (g j)) (grid (e j).width (e j).height (e j).mode) (h j)

module _ (n : ℕ) (b : List ℕ) where
  told : {A : Type 0} → Asked A → Bool
  told (answer x) = true
  told (refused k) = false

  -- a number that no refusal has
  pub place-unnamed : (n ≡ 0) ⊎ (11 < n) → at.Nowhere ≡ place_in n b
  unfolding place_in sheet_place
  place-unnamed h = go (well_formed b && leb (length (sheet_in b).weights) 64)
    where
      go : (v : Bool) → at.Nowhere ≡ cond v (sheet_place n (sheet_in b)) at.Nowhere
      go true = at_unnamed n (table_of (sheet_in b)) (sheet_in b).grid (sheet_in b).forbids h
      go false = refl

  -- bytes that are no sheet
  pub place-unread : {a : Result Measures Refusal} {r : Refusal} → a ≡ Err r → sizes_told a ≡ sizes_asked b → at.Nowhere ≡ place_in n b
  unfolding place_in sizes_told told
  place-unread is f = go (well_formed b) refl
    where
      go : (v : Bool) → well_formed b ≡ v → at.Nowhere ≡ cond (v && leb (length (sheet_in b).weights) 64) (sheet_place n (sheet_in b)) at.Nowhere
      go false w = refl
      go true w = absurd (false≢true (ap told (sym (ap sizes_told is) ∙ f ∙ sym (sizes-told b w refl))))

  module _ (w : well_formed b ≡ true) where
    pub place-many : 64 < length (sheet_in b).weights → at.Nowhere ≡ place_in n b
    unfolding place_in
    place-many h = sym (rw (w, lt-leb (length (sheet_in b).weights) 64 h))

    pub place-few : length (sheet_in b).weights ≤ 64 → sheet_place n (sheet_in b) ≡ place_in n b
    unfolding place_in
    place-few h = sym (rw (w, le-leb (length (sheet_in b).weights) 64 h))
