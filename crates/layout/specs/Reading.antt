-- Which bytes are a sheet, and what they say. Follows docs/RULES.md, "Sheet". Assumes nothing.
use Rattle.std.specs.Prelude.{Bool, true, false, ◌&&◌, List, [], ◌∷◌, ◌≡◌, ℕ, zero, suc, ◌+◌, ◌*◌, ◌%◌, leb, eqb, length, take, drop}
use Rattle.records.specs.Numbers.{u16At, numbers_in}
use Rattle.records.specs.Records.{Framed, begins, payload_of, rest_of}
use Rattle.grid.specs.Grid.{Grid, grid}
use Rattle.layout.specs.Sheet.{Sheet, sheet}

-- ---- the records of a sheet

-- the bytes from the second, the third and the fourth record on
abbrev pub from_lists : List ℕ → List ℕ
from_lists b = rest_of b

abbrev pub from_grid : List ℕ → List ℕ
from_grid b = rest_of (rest_of b)

abbrev pub from_forbids : List ℕ → List ℕ
from_forbids b = rest_of (rest_of (rest_of b))

-- the four records stand one after the other, and nothing stands after them
unfoldable pub framed : List ℕ → Bool
unfolding begins rest_of
framed b =
    begins 1 b && (begins 2 (from_lists b) && (begins 3 (from_grid b) && (begins 4 (from_forbids b) && eqb (length (rest_of (from_forbids b))) 0)))

-- what that says of where they are
pub record Frames (b : List ℕ) : Type 0 where
  pub first : Framed b
  pub second : Framed (from_lists b)
  pub third : Framed (from_grid b)
  pub fourth : Framed (from_forbids b)
  pub nothing : rest_of (from_forbids b) ≡ []

-- ---- what each holds

-- P, which begins the first
unfoldable pub count_in : List ℕ → ℕ
unfolding u16At payload_of
count_in b = u16At (payload_of b) 0

-- P and as many weights
unfoldable pub weights_fit : List ℕ → Bool
unfolding u16At
weights_fit p = leb 2 (length p) && eqb (length p) (2 + 2 * u16At p 0)

-- so many lists, each a length and that many ids, and nothing after
unfoldable pub lists_fit : ℕ → List ℕ → Bool
lists_fit zero [] = true
lists_fit zero (x ∷ p) = false
lists_fit (suc n) [] = false
lists_fit (suc n) (x ∷ p) = leb x (length p) && lists_fit n (drop x p)

-- three numbers
unfoldable pub grid_fits : List ℕ → Bool
grid_fits p = eqb (length p) 6

-- every third number is 0 or 1
unfoldable pub kinds_fit : List ℕ → Bool
kinds_fit [] = true
kinds_fit (c ∷ []) = true
kinds_fit (c ∷ p ∷ []) = true
kinds_fit (c ∷ p ∷ k ∷ l) = leb k 1 && kinds_fit l

-- at most 4,096 times three numbers
unfoldable pub forbids_fit : List ℕ → Bool
unfolding kinds_fit numbers_in
forbids_fit p = eqb (length p % 6) 0 && (leb (length p) (6 * 4096) && kinds_fit (numbers_in p))

-- the bytes are a sheet
unfoldable pub well_formed : List ℕ → Bool
unfolding framed weights_fit lists_fit count_in grid_fits forbids_fit
well_formed b =
    framed b
    && (weights_fit (payload_of b)
    && (lists_fit (4 * count_in b) (payload_of (from_lists b)) && (grid_fits (payload_of (from_grid b)) && forbids_fit (payload_of (from_forbids b)))))

-- ---- what a sheet's bytes say

-- so many lists
unfoldable pub lists_in : ℕ → List ℕ → List (List ℕ)
lists_in zero p = []
lists_in (suc n) [] = []
lists_in (suc n) (x ∷ p) = take x p ∷ lists_in n (drop x p)

-- width, height and mode
unfoldable pub grid_in : List ℕ → Grid
unfolding u16At
grid_in p = grid (u16At p 0) (u16At p 2) (u16At p 4)

-- weights, lists, grid and forbids
unfoldable pub sheet_in : List ℕ → Sheet
unfolding numbers_in lists_in count_in grid_in payload_of rest_of
sheet_in b =
    sheet (numbers_in (drop 2 (payload_of b))) (lists_in (4 * count_in b) (payload_of (from_lists b))) (grid_in (payload_of (from_grid b)))
    (numbers_in (payload_of (from_forbids b)))
