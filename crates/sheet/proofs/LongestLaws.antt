-- A sheet of 41,376 bytes: 64 patterns, of which each may stand beside each, and 4,096 forbids. No accepted sheet is longer (RoundLaws).
-- Follows docs/RULES.md, "Sheet". Assumes nothing.
use mathlib.Core.Bool.{false}
use mathlib.Core.List.{List, [], ◌∷◌}
use mathlib.Core.Path.{◌≡◌, refl, sym, ap, subst, ◌∙◌}
use Prim.Native.Nat.{ℕ, zero, suc, ◌+◌, ◌*◌, ◌≤◌, ◌<◌}
use native.Mathlib.Decide.{ℕ_discrete}
use native.Mathlib.Nat.{le_refl, le_of_eq, mul-le-mul_right}
use native.Mathlib.Omega.{arith}
use lib.Dec.{T}
use lib.ListN.{length, get_or, replicate, length-append, length-replicate, get_or-replicate}
use borrow.Author.Tests.{eq-eqb, ne_eqb}
use Rattle.loops.specs.Tests.{elem}
use Rattle.directions.specs.Directions.{opposite}
use Rattle.refusals.specs.Refusals.{first_of, answer}
use Rattle.adjacency.specs.Tables.{Table, list_at, list_of, InList}
use Rattle.adjacency.specs.Weights.{weight_of, whole_weight}
use Rattle.adjacency.specs.Accepted.{AllBelow, AllAbove, Ascends, Laid, Listed, Accepted}
use Rattle.grid.specs.Grid.{grid, cells, Sized}
use Rattle.forbids.specs.Forbids.{Placed, forbids_of}
use Rattle.layout.specs.Sheet.{Sheet, sheet, bytes_of}
use Rattle.layout.specs.Tables.{offsets_from, joined, table_of, lists_from, lists_of, sheet_for}
use Rattle.layout.specs.Lending.{Lent}
use Rattle.sheet.specs.Called.{measured, read_misfit, ReadOutcome, read_called, write_tests}
use Rattle.sheet.specs.Storable.{Storable}
use Rattle.loops.proofs.SumLaws.{sum-most}
use Rattle.directions.proofs.DirectionLaws.{opposite-below}
use Rattle.layout.proofs.ReadingLaws.{offsets_from-length}
use Rattle.layout.proofs.WritingLaws.{fitting-size}
use Rattle.layout.proofs.TableLaws.{lists_of-table_of}
use Rattle.sheet.proofs.StorableLaws.{placed-numbered}
use Rattle.sheet.proofs.RoundLaws.{read-written}
use Rattle.sheet.proofs.AcceptLaws.{write_accepts}

-- ---- n numbers from a on

unfoldable up_from : ℕ → ℕ → List ℕ
up_from a zero = []
up_from a (suc n) = a ∷ up_from (suc a) n

up_from-length : (a n : ℕ) → length (up_from a n) ≡ n
unfolding up_from
up_from-length a zero = refl
up_from-length a (suc n) = ap suc (up_from-length (suc a) n)

up_from-above : (x a n : ℕ) → x < a → AllAbove x (up_from a n)
unfolding up_from
up_from-above x a zero h = tt
up_from-above x a (suc n) h = (h, up_from-above x (suc a) n (omega arith))

up_from-ascends : (a n : ℕ) → Ascends (up_from a n)
unfolding up_from
up_from-ascends a zero = tt
up_from-ascends a (suc n) = (up_from-above a (suc a) n (omega arith), up_from-ascends (suc a) n)

up_from-below : (a n m : ℕ) → a + n ≤ m → AllBelow m (up_from a n)
unfolding up_from
up_from-below a zero m h = tt
up_from-below a (suc n) m h = (omega arith, up_from-below (suc a) n m (omega arith))

up_from-elem : (a n p : ℕ) → a ≤ p → p < a + n → T (elem p (up_from a n))
unfolding up_from elem
up_from-elem a zero p h k = absurd (omega arith)
up_from-elem a (suc n) p h k =
    elim (ℕ_discrete p a) [
      | yes e ↦ rw (eq-eqb p a e) tt
      | no e ↦ rw (ne_eqb p a e) (up_from-elem (suc a) n p (omega arith) (omega arith))
    ]

elem_below : (n : ℕ) (l : List ℕ) → AllBelow n l → (x : ℕ) → T (elem x l) → x < n
unfolding elem
elem_below n [] b x h = absurd h
elem_below n (y ∷ l) b x h =
    elim (ℕ_discrete x y) [
      | yes e ↦ omega (arith, b.0)
      | no e ↦ elem_below n l b.1 x (rw (ne_eqb x y e) at h)
    ]

-- ---- n times the same list

offsets_same : (l : List ℕ) (n a k : ℕ) → k ≤ n → get_or (offsets_from a (replicate n l)) k 0 ≡ a + k * length l
unfolding offsets_from
offsets_same l zero a zero h = omega arith
offsets_same l zero a (suc k) h = absurd (omega arith)
offsets_same l (suc n) a zero h = omega arith
offsets_same l (suc n) a (suc k) h = offsets_same l n (a + length l) k (omega arith) ∙ omega arith

joined_same : (l : List ℕ) (n : ℕ) → length (joined (replicate n l)) ≡ n * length l
unfolding joined
joined_same l zero = omega arith
joined_same l (suc n) = length-append l (joined (replicate n l)) ∙ ap (λ (m : ℕ). length l + m) (joined_same l n) ∙ omega arith

first_list : List (List ℕ) → List ℕ
first_list [] = []
first_list (l ∷ ls) = l

later_lists : List (List ℕ) → List (List ℕ)
later_lists [] = []
later_lists (l ∷ ls) = ls

lists_same : (t : Table) (l : List ℕ) (n j k : ℕ) → lists_from t j n ≡ replicate n l → k < n → list_at t (j + k) ≡ l
unfolding lists_from first_list later_lists
lists_same t l zero j k e h = absurd (omega arith)
lists_same t l (suc n) j zero e h =
    let here : j + 0 ≡ j = omega arith in
    ap (list_at t) here ∙ ap first_list e
lists_same t l (suc n) j (suc k) e h =
    let next : j + suc k ≡ suc j + k = omega arith in
    ap (list_at t) next ∙ lists_same t l n (suc j) k (ap later_lists e) (omega arith)

-- ---- forbids that take pattern 0 from cell 0, n of them

unfoldable zeros : ℕ → List ℕ
zeros zero = []
zeros (suc n) = 0 ∷ 0 ∷ 0 ∷ zeros n

zeros-length : (n : ℕ) → length (zeros n) ≡ 3 * n
unfolding zeros
zeros-length zero = refl
zeros-length (suc n) = omega (arith, zeros-length n)

zeros-placed : (P c n : ℕ) → 0 < P → 0 < c → Placed P c (forbids_of (zeros n))
unfolding zeros forbids_of
zeros-placed P c zero some any = tt
zeros-placed P c (suc n) some any = (any, some, zeros-placed P c n some any)

-- ---- P patterns of weight 16, of which each may stand beside each, on 32 by 32 cells, and n forbids

unfoldable pub full_sheet : ℕ → ℕ → Sheet
unfolding up_from zeros
full_sheet P n = sheet (replicate P 16) (replicate (4 * P) (up_from 0 P)) (grid 32 32 3) (zeros n)

module _ (P n : ℕ) where
  full-count : (table_of (full_sheet P n)).count ≡ P
  unfolding full_sheet table_of
  full-count = length-replicate P 16

  full-offsets : (k : ℕ) → k ≤ 4 * P → get_or (table_of (full_sheet P n)).offsets k 0 ≡ k * P
  unfolding full_sheet table_of
  full-offsets k h = offsets_same (up_from 0 P) (4 * P) 0 k h ∙ ap (λ (m : ℕ). 0 + k * m) (up_from-length 0 P) ∙ omega arith

  full-long : length (table_of (full_sheet P n)).offsets ≡ 4 * P + 1
  unfolding full_sheet table_of
  full-long = offsets_from-length 0 (replicate (4 * P) (up_from 0 P)) ∙ ap (λ (m : ℕ). m + 1) (length-replicate (4 * P) (up_from 0 P))

  full-ids : length (table_of (full_sheet P n)).ids ≡ 4 * P * P
  unfolding full_sheet table_of
  full-ids = joined_same (up_from 0 P) (4 * P) ∙ ap (λ (m : ℕ). 4 * P * m) (up_from-length 0 P)

  full-forbids : length (full_sheet P n).forbids ≡ 3 * n
  unfolding full_sheet
  full-forbids = zeros-length n

  full-lists : (full_sheet P n).lists ≡ replicate (4 * P) (up_from 0 P)
  unfolding full_sheet
  full-lists = refl

  full-many : length (full_sheet P n).lists ≡ 4 * length (full_sheet P n).weights
  unfolding full_sheet
  full-many = length-replicate (4 * P) (up_from 0 P) ∙ sym (ap (λ (m : ℕ). 4 * m) (length-replicate P 16))

  full_from : lists_from (table_of (full_sheet P n)) 0 (4 * P) ≡ replicate (4 * P) (up_from 0 P)
  unfolding lists_of
  full_from =
      sym (ap (λ (m : ℕ). lists_from (table_of (full_sheet P n)) 0 (4 * m)) full-count) ∙ lists_of-table_of (full_sheet P n) full-many ∙ full-lists

  -- every list holds every pattern
  full-list : (p d : ℕ) → p < P → d < 4 → list_of (table_of (full_sheet P n)) p d ≡ up_from 0 P
  unfolding list_of
  full-list p d hp hd =
      let at : 4 * p + d ≡ 0 + (4 * p + d) = omega arith in
      ap (list_at (table_of (full_sheet P n))) at ∙ lists_same (table_of (full_sheet P n)) (up_from 0 P) (4 * P) 0 (4 * p + d) full_from (omega arith)

  full-laid : Laid (table_of (full_sheet P n))
  full-laid =
      record {
        long = omega (arith, full-long, full-count);
        rising = λ k h. omega (arith, full-offsets k (omega (arith, full-count)), full-offsets (k + 1) (omega (arith, full-count)), mul-le-mul_right {m = k} {n = k + 1} P (omega arith));
        ends = λ k h. omega (arith, full-offsets k (omega (arith, full-count)), full-ids, mul-le-mul_right {m = k} {n = 4 * P} P (omega (arith, full-count)));
      }

  full-listed : 1 ≤ P → Listed (table_of (full_sheet P n))
  full-listed some =
      record {
        first = omega (arith, full-offsets 0 (omega arith));
        last = ap (λ (m : ℕ). get_or (table_of (full_sheet P n)).offsets (4 * m) 0) full-count ∙ full-offsets (4 * P) (le_refl (4 * P)) ∙ sym full-ids;
        laid = full-laid;
        filled = λ p d hp hd. omega (arith, ap length (full-list p d (omega (arith, full-count)) hd), up_from-length 0 P);
        ascends = λ p d hp hd. subst Ascends (sym (full-list p d (omega (arith, full-count)) hd)) (up_from-ascends 0 P);
        below = λ p d hp hd.
            subst (AllBelow (table_of (full_sheet P n)).count) (sym (full-list p d (omega (arith, full-count)) hd)) (up_from-below 0 P (table_of (full_sheet P n)).count (omega (arith, full-count)));
      }

  full_in : (p q d : ℕ) → p < P → q < P → d < 4 → InList (table_of (full_sheet P n)) p d q
  full_in p q d hp hq hd = subst (λ (l : List ℕ). T (elem q l)) (sym (full-list p d hp hd)) (up_from-elem 0 P q (omega arith) (omega arith))

  full-accepted : 1 ≤ P → P ≤ 64 → Accepted (table_of (full_sheet P n))
  full-accepted some few =
      record {
        some = omega (arith, full-count);
        few = omega (arith, full-count);
        listed = full-listed some;
        agree = λ p q d hp hd h.
            let below : q < P = elem_below P (up_from 0 P) (up_from-below 0 P P (omega arith)) q (subst (λ (l : List ℕ). T (elem q l)) (full-list p d (omega (arith, full-count)) hd) h) in
            full_in q p (opposite d) below (omega (arith, full-count)) (opposite-below d hd);
      }

  full-light : P ≤ 64 → whole_weight (full_sheet P n).weights ≤ 1024
  unfolding full_sheet whole_weight
  full-light few =
      let long : length {A = ℕ} (replicate P 16) ≡ P = length-replicate P 16 in
      let each : (i : ℕ) → i < length {A = ℕ} (replicate P 16) → weight_of (replicate P 16) i ≤ 16 =
      λ i h. le_of_eq (get_or-replicate P i 16 0 (subst (λ (m : ℕ). i < m) long h)) in
      omega (arith, sum-most (length {A = ℕ} (replicate P 16)) 16 (weight_of (replicate P 16)) each, long)

  full-grid : (full_sheet P n).grid ≡ grid 32 32 3
  unfolding full_sheet
  full-grid = refl

  full-weights : length (full_sheet P n).weights ≡ P
  unfolding full_sheet
  full-weights = length-replicate P 16

  full-placed : 1 ≤ P → Placed (table_of (full_sheet P n)).count (cells (full_sheet P n).grid) (forbids_of (full_sheet P n).forbids)
  unfolding full_sheet
  full-placed some = zeros-placed (table_of (full_sheet P n)).count 1024 n (omega (arith, full-count)) (omega arith)

  pub full_storable : 1 ≤ P → P ≤ 64 → n ≤ 4096
      → Storable (table_of (full_sheet P n)) (full_sheet P n).weights (full_sheet P n).grid (full_sheet P n).forbids
  full_storable some few short =
      record {
        fitting =
            record {
              accepted = full-accepted some few;
              weighed = record { one_each = full-weights ∙ sym full-count; light = full-light few };
              sized = subst Sized (sym full-grid) (record { wide = omega arith; narrow = omega arith; tall = omega arith; low = omega arith; few = omega arith; known = omega arith });
              threes = omega (arith, full-forbids);
              few = omega (arith, full-forbids);
              numbered = placed-numbered (full_sheet P n).forbids (full-accepted some few).few (omega (arith, ap cells full-grid)) (full-placed some);
            };
        placed = full-placed some;
      }

-- ---- the longest

abbrev pub longest_sheet : Sheet
longest_sheet = full_sheet 64 4096

-- as it is stored
abbrev pub longest_stored : Sheet
longest_stored = sheet_for (table_of longest_sheet) longest_sheet.weights longest_sheet.grid longest_sheet.forbids

pub longest_storable : Storable (table_of longest_sheet) longest_sheet.weights longest_sheet.grid longest_sheet.forbids
longest_storable = full_storable 64 4096 (omega arith) (omega arith) (omega arith)

pub longest-reached : length (bytes_of longest_stored) ≡ 41376
longest-reached =
    omega
    (arith, fitting-size (table_of longest_sheet) longest_sheet.weights longest_sheet.grid longest_sheet.forbids longest_storable.fitting, full-count 64 4096, full-ids 64 4096, full-forbids 64 4096)

-- it is written where there is room for as many bytes
pub longest-written : first_of (write_tests (table_of longest_sheet) longest_sheet.weights longest_sheet.grid longest_sheet.forbids 41376) ≡ 0
longest-written =
    write_accepts (table_of longest_sheet) longest_sheet.weights longest_sheet.grid longest_sheet.forbids longest_storable 41376 (le_of_eq longest-reached)

-- and those bytes are read back, into slices of the published lengths
pub longest-read : (l : Lent) → read_misfit (measured longest_stored) (length l.weights) (length l.offsets) (length l.ids) (length l.forbids) ≡ false
    → (read_called (bytes_of longest_stored) l).told ≡ answer (measured longest_stored)
longest-read l fits =
    ap (λ (o : ReadOutcome). o.told)
    (read-written (table_of longest_sheet) longest_sheet.weights longest_sheet.grid longest_sheet.forbids 41376 longest-written l fits)
