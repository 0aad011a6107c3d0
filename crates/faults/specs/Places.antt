-- Where a refused sheet is wrong: the first list, the first pair of patterns or the first forbid, in the order in which they are tested.
-- Follows docs/RULES.md, "Programs". Assumes nothing.
use Rattle.std.specs.Prelude.{Bool, true, false, cond, ◌&&◌, List, ◌≡◌, ℕ, zero, suc, ◌+◌, ◌*◌, ◌/◌, ◌%◌, ◌<◌, leb, ltb, eqb, length, get_or}
use Rattle.loops.specs.Tests.{elem}
use Rattle.directions.specs.Directions.{opposite}
use Rattle.refusals.specs.Refusals.{first_of}
use Rattle.adjacency.specs.Tables.{Table, list_of}
use Rattle.adjacency.specs.Checks.{list_ok, bad_list, agrees_at}
use Rattle.grid.specs.Grid.{Grid}
use Rattle.forbids.specs.Forbids.{place_tests}
use Rattle.layout.specs.Sheet.{Sheet}
use Rattle.layout.specs.Tables.{table_of}
use Rattle.layout.specs.Reading.{well_formed, sheet_in}
use Rattle.faults.specs.declared.inner.Place.{Place}
use Rattle.faults.specs.declared.inner.Place.TheVariants as at

-- ---- the first that fails

-- of so many numbers from k on the first that fails a test, or the one past them where none does
unfoldable pub first_failing : (ℕ → Bool) → ℕ → ℕ → ℕ
first_failing f k zero = k
first_failing f k (suc n) = cond (f k) (first_failing f (suc k) n) k

-- of each number below n, what a test that code makes tells is f
abbrev pub Tells : (ℕ → Bool → Type 0) → (ℕ → Bool) → ℕ → Type 0
Tells post f n = (k : ℕ) (r : Bool) → k < n → post k r → r ≡ f k

-- what that is below n: no number before it fails
pub record First (f : ℕ → Bool) (n k : ℕ) : Type 0 where
  pub inside : k < n
  pub fails : f k ≡ false
  pub before : (j : ℕ) → j < k → f j ≡ true

-- ---- lists, counted pattern by pattern and direction by direction

-- list k is as it must be
abbrev pub list_fits : Table → ℕ → Bool
list_fits t k = list_ok t.count (list_of t (k / 4) (k % 4))

-- list k agrees
abbrev pub list_agrees : Table → ℕ → Bool
list_agrees t k = agrees_at t (k / 4) (k % 4)

-- entry i of a list for p and d has p in its own list for the opposite
abbrev pub answers_in : Table → ℕ → ℕ → List ℕ → ℕ → Bool
answers_in t p d list i = elem p (list_of t (get_or list i 0) (opposite d))

abbrev pub answers : Table → ℕ → ℕ → ℕ → Bool
answers t p d i = answers_in t p d (list_of t p d) i

-- the first list that is not as it must be
unfoldable pub list_place : Table → Place
unfolding first_failing list_of list_ok
list_place t =
    let k = first_failing (list_fits t) 0 (4 * t.count) in
    cond (ltb k (4 * t.count)) (at.List (k / 4) (k % 4)) at.Nowhere

-- the first id of p's list for d that does not answer
unfoldable pub unanswered : Table → ℕ → ℕ → ℕ
unfolding first_failing list_of elem opposite
unanswered t p d = get_or (list_of t p d) (first_failing (answers t p d) 0 (length (list_of t p d))) 0

-- the first list that disagrees, and its first id that does; lists that are not as they must be are not held against each other
unfoldable pub pair_place : Table → Place
unfolding first_failing agrees_at unanswered bad_list
pair_place t =
    let k = first_failing (list_agrees t) 0 (4 * t.count) in
    cond (bad_list t) at.Nowhere (cond (ltb k (4 * t.count)) (at.Pair (k / 4) (k % 4) (unanswered t (k / 4) (k % 4))) at.Nowhere)

-- ---- forbids, record by record

-- the number of record i's own refusal, 0 for none
unfoldable pub judged : ℕ → Grid → List ℕ → ℕ → ℕ
unfolding first_of place_tests
judged P g forbids i = first_of (place_tests P g (get_or forbids (3 * i) 0) (get_or forbids (3 * i + 1) 0))

-- record i is not refused
abbrev pub forbid_fits : ℕ → Grid → List ℕ → ℕ → Bool
forbid_fits P g forbids i = eqb (judged P g forbids i) 0

-- the first record that is refused: its cell, or its pattern where the cell is in the grid
unfoldable pub forbid_place : ℕ → Grid → List ℕ → Place
unfolding first_failing judged
forbid_place P g forbids =
    let i = first_failing (forbid_fits P g forbids) 0 (length forbids / 3) in
    cond (ltb i (length forbids / 3))
    (cond (eqb (judged P g forbids i) 8) (at.Cell i (get_or forbids (3 * i) 0)) (at.Pattern i (get_or forbids (3 * i + 1) 0))) at.Nowhere

-- ---- a sheet

-- by the number of its refusal: 6, 7, and 8 or 9; the others have no place
unfoldable pub place_at : ℕ → Table → Grid → List ℕ → Place
unfolding list_place pair_place forbid_place
place_at number t g forbids =
    cond (eqb number 6) (list_place t)
    (cond (eqb number 7) (pair_place t) (cond (leb 8 number && leb number 9) (forbid_place t.count g forbids) at.Nowhere))

-- where a sheet is wrong that has this refusal
unfoldable pub sheet_place : ℕ → Sheet → Place
unfolding place_at table_of
sheet_place number s = place_at number (table_of s) s.grid s.forbids

-- the same of bytes, of a sheet of up to 64 patterns
unfoldable pub place_in : ℕ → List ℕ → Place
unfolding sheet_place well_formed sheet_in
place_in number b = cond (well_formed b && leb (length (sheet_in b).weights) 64) (sheet_place number (sheet_in b)) at.Nowhere
