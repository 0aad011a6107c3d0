-- Reading undoes writing, and writing undoes reading: for a sheet and its bytes. Follows docs/RULES.md, "Sheet".
-- Assumes nothing.
use mathlib.Core.Bool.{true, false≢true}
use mathlib.Core.List.{List, [], ◌∷◌, ◌++◌, append-nil}
use mathlib.Core.Path.{◌≡◌, refl, sym, ap, ◌∙◌}
use Prim.Native.Nat.{ℕ, zero, suc, ◌+◌, ◌*◌, ◌/◌, ◌%◌, ◌≤◌}
use native.Mathlib.Omega.{arith}
use lib.Dec.{leb, eqb}
use lib.ListN.{length, take, drop, length-append, take-append-drop}
use lib.Seq.{length-take-le, take-append_seam, drop-append_seam}
use borrow.Author.Tests.{le-leb, eq-eqb, leb-true}
use Rattle.records.specs.Numbers.{u16s, u16At, numbers_in}
use Rattle.records.specs.Records.{record_of, begins, payload_of, rest_of}
use Rattle.grid.specs.Grid.{Grid, grid}
use Rattle.layout.specs.Sheet.{Sheet, sheet, list_bytes, bytes_of}
use Rattle.layout.specs.Reading.{from_lists, from_grid, from_forbids, framed, count_in, weights_fit, lists_fit, grid_fits, kinds_fit, forbids_fit, well_formed, lists_in, grid_in, sheet_in}
use Rattle.loops.proofs.TestLaws.{both}
use Rattle.records.proofs.NumberLaws.{length-u16s}
use Rattle.records.proofs.RecordLaws.{Bytes, bytes-payload, bytes_rest}
use Rattle.records.proofs.BackLaws.{u16-number, numbers_in-u16s, u16s-numbers_in, begins-record_of, payload_of-record_of, rest_of-record_of, record_of-begins}
use Rattle.layout.proofs.ShapeLaws.{framed_is, well_formed-is, weights-length, weights_long, forbids-is, Formed, formed}
use Rattle.layout.proofs.ReadingLaws.{count-is}

-- ---- lists

pub list_bytes-lists_in : (n : ℕ) (p : List ℕ) → lists_fit n p ≡ true → list_bytes (lists_in n p) ≡ p
unfolding lists_fit lists_in list_bytes
list_bytes-lists_in zero [] e = refl
list_bytes-lists_in zero (x ∷ p) e = absurd (false≢true e)
list_bytes-lists_in (suc n) [] e = absurd (false≢true e)
list_bytes-lists_in (suc n) (x ∷ p) e =
    let (fits, rest) = both (leb x (length p)) (lists_fit n (drop x p)) e in
    let size = length-take-le x p (leb-true x (length p) fits) in
    (λ j. size j ∷ (take x p ++ list_bytes-lists_in n (drop x p) rest j)) ∙ ap (λ (l : List ℕ). x ∷ l) (take-append-drop x p)

pub lists_fit-list_bytes : (ls : List (List ℕ)) → lists_fit (length ls) (list_bytes ls) ≡ true
unfolding lists_fit list_bytes
lists_fit-list_bytes [] = refl
lists_fit-list_bytes (l ∷ ls) =
    rw (le-leb (length l) (length (l ++ list_bytes ls)) (omega (arith, length-append l (list_bytes ls))), drop-append_seam l (list_bytes ls)) (lists_fit-list_bytes ls)

pub lists_in-list_bytes : (ls : List (List ℕ)) → lists_in (length ls) (list_bytes ls) ≡ ls
unfolding lists_in list_bytes
lists_in-list_bytes [] = refl
lists_in-list_bytes (l ∷ ls) =
    (λ j. take-append_seam l (list_bytes ls) j ∷ lists_in (length ls) (drop-append_seam l (list_bytes ls) j)) ∙ ap (λ (r : List (List ℕ)). l ∷ r) (lists_in-list_bytes ls)

-- ---- bytes, read and written

-- P and the weights are the numbers of the first record
front-back : (p : List ℕ) → Bytes p → 2 ≤ length p → length p ≡ 2 + 2 * u16At p 0 → u16s (u16At p 0 ∷ numbers_in (drop 2 p)) ≡ p
unfolding u16At numbers_in
front-back [] h long e = absurd (omega arith)
front-back (x ∷ []) h long e = absurd (omega arith)
front-back (x ∷ y ∷ p) h long e = u16s-numbers_in (x ∷ y ∷ p) h (omega arith)

-- three numbers are the third
grid-back : (p : List ℕ) → Bytes p → length p ≡ 6 → u16s (u16At p 0 ∷ u16At p 2 ∷ u16At p 4 ∷ []) ≡ p
unfolding u16At numbers_in
grid-back (a ∷ b ∷ c ∷ d ∷ e ∷ f ∷ []) h z = u16s-numbers_in (a ∷ b ∷ c ∷ d ∷ e ∷ f ∷ []) h refl
grid-back [] h z = absurd (omega arith)
grid-back (a ∷ []) h z = absurd (omega arith)
grid-back (a ∷ b ∷ []) h z = absurd (omega arith)
grid-back (a ∷ b ∷ c ∷ []) h z = absurd (omega arith)
grid-back (a ∷ b ∷ c ∷ d ∷ []) h z = absurd (omega arith)
grid-back (a ∷ b ∷ c ∷ d ∷ e ∷ []) h z = absurd (omega arith)
grid-back (a ∷ b ∷ c ∷ d ∷ e ∷ f ∷ g ∷ l) h z = absurd (omega arith)

count-first : (b : List ℕ) → Formed b → length (numbers_in (drop 2 (payload_of b))) ≡ u16At (payload_of b) 0
unfolding sheet_in count_in
count-first b F = count-is b F

-- which records a sheet's bytes have
record Kinds (b : List ℕ) : Type 0 where
  first : begins 1 b ≡ true
  second : begins 2 (from_lists b) ≡ true
  third : begins 3 (from_grid b) ≡ true
  fourth : begins 4 (from_forbids b) ≡ true

kinds_of : (b : List ℕ) → well_formed b ≡ true → Kinds b
unfolding well_formed framed
kinds_of b e =
    let (frames, rest) = both (framed b) _ e in
    let (first, e₂) = both (begins 1 b) _ frames in
    let (second, e₃) = both (begins 2 (from_lists b)) _ e₂ in
    let (third, e₄) = both (begins 3 (from_grid b)) _ e₃ in
    let (fourth, nothing) = both (begins 4 (from_forbids b)) _ e₄ in
    record { first = first; second = second; third = third; fourth = fourth }

-- every sheet is the bytes of what it says
pub bytes_of-sheet_in : (b : List ℕ) → Bytes b → well_formed b ≡ true → bytes_of (sheet_in b) ≡ b
unfolding bytes_of sheet_in grid_in
bytes_of-sheet_in b h e =
    let F = formed b e in
    let K = kinds_of b e in
    let h₂ = bytes_rest b h in
    let h₃ = bytes_rest (from_lists b) h₂ in
    let h₄ = bytes_rest (from_grid b) h₃ in
    let (long, same) = weights-length (payload_of b) F.weights in
    let p₁ : u16s (length (numbers_in (drop 2 (payload_of b))) ∷ numbers_in (drop 2 (payload_of b))) ≡ payload_of b =
    ap (λ (n : ℕ). u16s (n ∷ numbers_in (drop 2 (payload_of b)))) (count-first b F) ∙ front-back (payload_of b) (bytes-payload b h) long same in
    let p₂ = list_bytes-lists_in (4 * count_in b) (payload_of (from_lists b)) F.lists in
    let p₃ = grid-back (payload_of (from_grid b)) (bytes-payload (from_grid b) h₃) F.sides in
    let p₄ = u16s-numbers_in (payload_of (from_forbids b)) (bytes-payload (from_forbids b) h₄) (omega (arith, F.sixes)) in
    let r₄ = sym (append-nil (record_of 4 (payload_of (from_forbids b)))) ∙ sym (ap (λ (l : List ℕ). record_of 4 (payload_of (from_forbids b)) ++ l) F.frames.nothing)
    ∙ record_of-begins 4 (from_forbids b) h₄ K.fourth in
    (λ j. record_of 1 (p₁ j) ++ (record_of 2 (p₂ j) ++ (record_of 3 (p₃ j) ++ record_of 4 (p₄ j))))
    ∙ ap (λ (l : List ℕ). record_of 1 (payload_of b) ++ (record_of 2 (payload_of (from_lists b)) ++ (record_of 3 (payload_of (from_grid b)) ++ l))) r₄
    ∙ ap (λ (l : List ℕ). record_of 1 (payload_of b) ++ (record_of 2 (payload_of (from_lists b)) ++ l)) (record_of-begins 3 (from_grid b) h₃ K.third)
    ∙ ap (λ (l : List ℕ). record_of 1 (payload_of b) ++ l) (record_of-begins 2 (from_lists b) h₂ K.second)
    ∙ record_of-begins 1 b h K.first

-- ---- a sheet, written and read

-- four records and their payloads
record Cuts (b p₁ p₂ p₃ p₄ : List ℕ) : Type 0 where
  frames : framed b ≡ true
  first : payload_of b ≡ p₁
  second : payload_of (from_lists b) ≡ p₂
  third : payload_of (from_grid b) ≡ p₃
  fourth : payload_of (from_forbids b) ≡ p₄

cuts : (p₁ p₂ p₃ p₄ : List ℕ) → Cuts (record_of 1 p₁ ++ (record_of 2 p₂ ++ (record_of 3 p₃ ++ record_of 4 p₄))) p₁ p₂ p₃ p₄
cuts p₁ p₂ p₃ p₄ =
    let b₄ = record_of 4 p₄ in
    let b₃ = record_of 3 p₃ ++ b₄ in
    let b₂ = record_of 2 p₂ ++ b₃ in
    let b = record_of 1 p₁ ++ b₂ in
    let r₁ : rest_of b ≡ b₂ = rest_of-record_of 1 p₁ b₂ in
    let r₂ : from_grid b ≡ b₃ = ap rest_of r₁ ∙ rest_of-record_of 2 p₂ b₃ in
    let r₃ : from_forbids b ≡ b₄ = ap rest_of r₂ ∙ rest_of-record_of 3 p₃ b₄ in
    let alone = append-nil b₄ in
    record {
      frames =
          framed_is b (sym r₁) (sym (rest_of-record_of 2 p₂ b₃)) (sym (rest_of-record_of 3 p₃ b₄)) (sym (sym (ap rest_of alone) ∙ rest_of-record_of 4 p₄ [])) (begins-record_of 1 p₁ b₂)
          (begins-record_of 2 p₂ b₃) (begins-record_of 3 p₃ b₄) (sym (ap (begins 4) alone) ∙ begins-record_of 4 p₄ []) refl;
      first = payload_of-record_of 1 p₁ b₂;
      second = ap payload_of r₁ ∙ payload_of-record_of 2 p₂ b₃;
      third = ap payload_of r₂ ∙ payload_of-record_of 3 p₃ b₄;
      fourth = ap payload_of r₃ ∙ sym (ap payload_of alone) ∙ payload_of-record_of 4 p₄ [];
    }

-- a sheet that can be written: four lists for each pattern, and at most 4,096 forbids of three numbers, the third 0 or 1
pub record Whole (s : Sheet) : Type 0 where
  pub lists : length s.lists ≡ 4 * length s.weights
  pub threes : length s.forbids % 3 ≡ 0
  pub few : length s.forbids ≤ 12288
  pub kinds : kinds_fit s.forbids ≡ true

u16s-first : (n : ℕ) (ns : List ℕ) → u16At (u16s (n ∷ ns)) 0 ≡ n
unfolding u16s u16At
u16s-first n ns = u16-number n

u16s-later : (n : ℕ) (ns : List ℕ) → drop 2 (u16s (n ∷ ns)) ≡ u16s ns
unfolding u16s
u16s-later n ns = refl

u16s-three : (g : Grid) → grid_in (u16s (g.width ∷ g.height ∷ g.mode ∷ [])) ≡ g
unfolding u16s u16At grid_in
u16s-three g = λ j. grid (u16-number g.width j) (u16-number g.height j) (u16-number g.mode j)

grid-fits : (g : Grid) → grid_fits (u16s (g.width ∷ g.height ∷ g.mode ∷ [])) ≡ true
unfolding grid_fits u16s
grid-fits g = refl

weights-back : (n : ℕ) (ns : List ℕ) → numbers_in (drop 2 (u16s (n ∷ ns))) ≡ ns
weights-back n ns = ap numbers_in (u16s-later n ns) ∙ numbers_in-u16s ns

forbids-fit : (fs : List ℕ) → length fs % 3 ≡ 0 → length fs ≤ 12288 → kinds_fit fs ≡ true → forbids_fit (u16s fs) ≡ true
forbids-fit fs threes few kinds =
    let p = u16s fs in
    let third : length fs ≡ 3 * (length fs / 3) = omega arith in
    let six : length p % 6 ≡ 0 = omega (arith, length-u16s fs) in
    forbids-is p (eq-eqb (length p % 6) 0 six) (le-leb (length p) 24576 (omega (arith, length-u16s fs))) (ap kinds_fit (numbers_in-u16s fs) ∙ kinds)

pub sheet_in-bytes_of : (s : Sheet) → Whole s → (well_formed (bytes_of s) ≡ true) × (sheet_in (bytes_of s) ≡ s)
unfolding bytes_of sheet_in count_in
sheet_in-bytes_of s W =
    let p₁ = u16s (length s.weights ∷ s.weights) in
    let p₂ = list_bytes s.lists in
    let p₃ = u16s (s.grid.width ∷ s.grid.height ∷ s.grid.mode ∷ []) in
    let p₄ = u16s s.forbids in
    let b = record_of 1 p₁ ++ (record_of 2 p₂ ++ (record_of 3 p₃ ++ record_of 4 p₄)) in
    let C = cuts p₁ p₂ p₃ p₄ in
    let P = length s.weights in
    let count : u16At (payload_of b) 0 ≡ P = ap (λ (p : List ℕ). u16At p 0) C.first ∙ u16s-first P s.weights in
    let many : 4 * u16At (payload_of b) 0 ≡ length s.lists = ap (λ (n : ℕ). 4 * n) count ∙ sym W.lists in
    let fits : eqb (length p₁) (2 + 2 * P) ≡ true = eq-eqb (length p₁) (2 + 2 * P) (omega (arith, length-u16s (P ∷ s.weights))) in
    let weights : weights_fit p₁ ≡ true = sym (weights_long p₁ (omega (arith, length-u16s (P ∷ s.weights))) (sym (u16s-first P s.weights))) ∙ fits in
    let sides : grid_fits p₃ ≡ true = grid-fits s.grid in (
      well_formed-is b C.frames (ap weights_fit C.first ∙ weights)
          ((λ j. lists_fit (many j) (C.second j)) ∙ lists_fit-list_bytes s.lists)
          (ap grid_fits C.third ∙ sides)
          (ap forbids_fit C.fourth ∙ forbids-fit s.forbids W.threes W.few W.kinds),
      (λ j. sheet (numbers_in (drop 2 (C.first j))) (lists_in (many j) (C.second j)) (grid_in (C.third j)) (numbers_in (C.fourth j)))
          ∙ (λ j. sheet (weights-back P s.weights j) (lists_in-list_bytes s.lists j) (u16s-three s.grid j) (numbers_in-u16s s.forbids j)),
    )
