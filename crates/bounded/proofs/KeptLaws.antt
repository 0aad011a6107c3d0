-- What a program keeps of noise and words suffices: a noise word more than the most cells, and a word for each cell. What is read past changes nothing.
-- Follows docs/RULES.md, "Programs". Assumes nothing.
use mathlib.Core.Bool.{Bool, true, false, not, cond}
use mathlib.Core.List.{List, ◌∷◌}
use mathlib.Core.Path.{◌≡◌, refl, sym, ap, ◌∙◌, subst}
use Prim.Native.Nat.{ℕ, zero, suc, ◌*◌, ◌%◌, ◌≤◌}
use native.Mathlib.Omega.{arith}
use lib.Dec.{ltb, eqb}
use lib.ListN.{length, take, drop, take-append-drop}
use lib.Seq.{length-take-le, take_all}
use borrow.Author.Tests.{ltb-true, ltb-false, eq-eqb, ne_eqb, not-false}
use Rattle.adjacency.specs.Tables.{Table}
use Rattle.adjacency.specs.Checks.{weights_misfit}
use Rattle.grid.specs.Grid.{Grid, cells}
use Rattle.course.specs.Run.{given, Ended, run_of}
use Rattle.forbids.specs.Forbids.{forbids_of, records_in}
use Rattle.course.specs.Course.{Lawful}
use Rattle.layout.specs.Sheet.{Sheet}
use Rattle.layout.specs.Tables.{table_of}
use Rattle.layout.specs.Reading.{well_formed, sheet_in}
use Rattle.sheet.specs.Called.{form_test, sheet_tests, content_tests, measured}
use Rattle.bounded.specs.Laid.{Told, too_large, refused, answer, onward, sheet_refusal, large, taken_at, taken_of, ran_of, laid_of, Runnable}
use Rattle.refusals.proofs.RefusalLaws.{first-passed}
use Rattle.adjacency.proofs.AcceptedLaws.{accepted_by, long-good}
use Rattle.adjacency.proofs.WeightLaws.{weighed}
use Rattle.forbids.proofs.ForbidLaws.{passed-placed}
use Rattle.laws.proofs.WordsLaws.{appended-words, enough-words}
use Rattle.layout.proofs.ShapeLaws.{formed}
use Rattle.sheet.proofs.MeasureLaws.{known}
use Rattle.sheet.proofs.StorableLaws.{scalars-good}
use Rattle.sheet.proofs.RoundLaws.{sheet-passed}
use Rattle.bounded.proofs.HeldLaws.{refusal_next}
use Rattle.bounded.proofs.TakenLaws.{taken-large, taken-sheet}
use Rattle.bounded.proofs.RunLaws.{runnable_few}

-- ---- what is known of a sheet that is taken

-- which of the three a program tells, and the answer
kind : {A : Type 0} → Told A → ℕ
kind too_large = 1
kind (refused n) = 2
kind (answer x) = 0

unfoldable pub within : {A : Type 0} → A → Told A → A
within d too_large = d
within d (refused n) = d
within d (answer x) = x

module _ (b : List ℕ) where
  -- nothing is refused, and it is not too large
  own_runnable : sheet_refusal b ≡ 0 → cells (sheet_in b).grid * length (sheet_in b).weights ≤ 4096
      → Runnable (table_of (sheet_in b)) (sheet_in b).weights (sheet_in b).grid (sheet_in b).forbids
  unfolding sheet_refusal measured table_of records_in
  own_runnable none h =
      let s = sheet_in b in
      let tests = sheet_tests false (table_of s) s.weights s.grid s.forbids in
      let w : well_formed b ≡ true = not-false (well_formed b) (first-passed (form_test b ∷ tests) none).0 in
      let (scalars, lengths, content) = sheet-passed false (table_of s) s.weights s.grid s.forbids (sym (refusal_next b w) ∙ none) in
      let K = known b (formed b w) (measured s) refl in
      record {
        scalars = scalars;
        content = content;
        one_each = refl;
        starts = K.offsets_same;
        few = rw (eq-eqb (length s.forbids % 3) 0 (omega (arith, K.forbids_same))) (omega (arith, K.forbids_same, K.less));
        small = h;
      }

  pub taken-means : (s : Sheet) → taken_of b ≡ answer s → (s ≡ sheet_in b) × (sheet_refusal b ≡ 0) × (cells (sheet_in b).grid * length (sheet_in b).weights ≤ 4096)
  unfolding kind within taken_of taken_at large measured
  taken-means s q = first (sheet_refusal b) refl
    where
      second : sheet_refusal b ≡ 0 → (v : Bool) → ltb 4096 (cells (sheet_in b).grid * length (sheet_in b).weights) ≡ v
          → (s ≡ sheet_in b) × (sheet_refusal b ≡ 0) × (cells (sheet_in b).grid * length (sheet_in b).weights ≤ 4096)
      second none true h =
          absurd (omega (arith, ap kind (sym (taken-large b none (measured (sheet_in b)) refl (ltb-true 4096 (cells (sheet_in b).grid * length (sheet_in b).weights) h)) ∙ q)))
      second none false h =
          let small = ltb-false 4096 (cells (sheet_in b).grid * length (sheet_in b).weights) h in
          (sym (ap (within s) (sym (taken-sheet b none (measured (sheet_in b)) refl small) ∙ q)), none, small)

      first : (n : ℕ) → sheet_refusal b ≡ n → (s ≡ sheet_in b) × (sheet_refusal b ≡ 0) × (cells (sheet_in b).grid * length (sheet_in b).weights ≤ 4096)
      first zero e = second e (ltb 4096 (cells (sheet_in b).grid * length (sheet_in b).weights)) refl
      first (suc n) e = absurd (omega (arith, ap kind (sym (ap (λ (k : ℕ). taken_at k (sheet_in b)) e) ∙ q)))

  -- a sheet that is taken can be run
  pub taken_runnable : (s : Sheet) → taken_of b ≡ answer s → Runnable (table_of s) s.weights s.grid s.forbids
  taken_runnable s q =
      let (e, none, small) = taken-means s q in
      subst (λ (x : Sheet). Runnable (table_of x) x.weights x.grid x.forbids) (sym e) (own_runnable none small)

-- ---- noise and words

module _ (t : Table) (weights : List ℕ) (g : Grid) (ns : List ℕ) (R : Runnable t weights g ns) where
  lawful-run : (noise : List ℕ) → Lawful (given t weights g noise) (forbids_of ns)
  unfolding content_tests weights_misfit
  lawful-run noise =
      let (count, sized) = scalars-good t.count g R.scalars in
      let (heavy, (list, (agreement, placed))) = first-passed (content_tests t weights g ns) R.content in
      record {
        accepted = accepted_by t count (long-good t.count t.offsets R.starts) list agreement;
        weighed = weighed t.count weights (ap not (eq-eqb (length weights) t.count R.one_each)) heavy;
        placed = passed-placed t g (forbids_of ns) placed;
      }

  kept-noise : (noise words : List ℕ) → ran_of (given t weights g (take 1025 noise)) ns words ≡ ran_of (given t weights g noise) ns words
  unfolding ran_of
  kept-noise noise words = go (ltb 1025 (length noise)) refl
    where
      go : (v : Bool) → ltb 1025 (length noise) ≡ v → ran_of (given t weights g (take 1025 noise)) ns words ≡ ran_of (given t weights g noise) ns words
      go true h =
          let long = ltb-true 1025 (length noise) h in
          let few = runnable_few R in
          rw
          (ne_eqb (length (take 1025 noise)) (cells g) (λ z. omega (arith, length-take-le 1025 noise (omega arith))), ne_eqb (length noise) (cells g) (λ z. omega arith))
      go false h = ap (λ (l : List ℕ). ran_of (given t weights g l) ns words) (take_all 1025 noise (ltb-false 1025 (length noise) h))

  words-enough : (noise words : List ℕ) → run_of (given t weights g noise) (forbids_of ns) (take 1024 words) ≡ run_of (given t weights g noise) (forbids_of ns) words
  words-enough noise words = go (ltb 1024 (length words)) refl
    where
      go : (v : Bool) → ltb 1024 (length words) ≡ v → run_of (given t weights g noise) (forbids_of ns) (take 1024 words) ≡ run_of (given t weights g noise) (forbids_of ns) words
      go true h =
          let i = given t weights g noise in
          let enough : cells g ≤ length (take 1024 words) = omega (arith, runnable_few R, length-take-le 1024 words (omega (arith, ltb-true 1024 (length words) h))) in
          let unpaused = enough-words i (forbids_of ns) (lawful-run noise) (take 1024 words) enough in
          sym ((appended-words i (forbids_of ns) (lawful-run noise) (take 1024 words) (drop 1024 words)).0 unpaused)
          ∙ ap (run_of i (forbids_of ns)) (take-append-drop 1024 words)
      go false h = ap (run_of (given t weights g noise) (forbids_of ns)) (take_all 1024 words (ltb-false 1024 (length words) h))

  kept-words : (noise words : List ℕ) → ran_of (given t weights g noise) ns (take 1024 words) ≡ ran_of (given t weights g noise) ns words
  unfolding ran_of
  kept-words noise words = ap (λ (e : Ended). cond (eqb (length noise) (cells g)) (answer e) (refused 5)) (words-enough noise words)

-- ---- the case

pub kept-suffices : (b noise words : List ℕ) → laid_of b (take 1025 noise) (take 1024 words) ≡ laid_of b noise words
unfolding laid_of onward
kept-suffices b noise words = go (taken_of b) refl
  where
    go : (x : Told Sheet) → taken_of b ≡ x
        → onward x (λ (s : Sheet). ran_of (given (table_of s) s.weights s.grid (take 1025 noise)) s.forbids (take 1024 words))
        ≡ onward x (λ (s : Sheet). ran_of (given (table_of s) s.weights s.grid noise) s.forbids words)
    go too_large q = refl
    go (refused n) q = refl
    go (answer s) q =
        let R = taken_runnable b s q in
        kept-noise (table_of s) s.weights s.grid s.forbids R noise (take 1024 words) ∙ kept-words (table_of s) s.weights s.grid s.forbids R noise words
