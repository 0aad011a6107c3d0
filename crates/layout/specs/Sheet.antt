-- A sheet: what it says, and its bytes. Follows docs/RULES.md, "Sheet". Assumes nothing.
use Rattle.std.specs.Prelude.{List, [], ◌∷◌, ◌++◌, ℕ, length}
use Rattle.records.specs.Numbers.{u16s}
use Rattle.records.specs.Records.{record_of}
use Rattle.grid.specs.Grid.{Grid}

-- what a sheet says: a weight for each pattern, the lists in order, the grid, and three numbers for each forbid: cell, pattern, keep
pub record Sheet : Type 0 where
  pub weights : List ℕ
  pub lists : List (List ℕ)
  pub grid : Grid
  pub forbids : List ℕ

abbrev pub sheet : List ℕ → List (List ℕ) → Grid → List ℕ → Sheet
sheet weights lists grid forbids = record { weights = weights; lists = lists; grid = grid; forbids = forbids }

-- each list as a byte for its length, and its ids
unfoldable pub list_bytes : List (List ℕ) → List ℕ
list_bytes [] = []
list_bytes (l ∷ ls) = (length l ∷ l) ++ list_bytes ls

-- kinds 1, 2, 3, 4 in order: the count and the weights; the lists; width, height and mode; the forbids
unfoldable pub bytes_of : Sheet → List ℕ
unfolding record_of u16s list_bytes
bytes_of s =
    record_of 1 (u16s (length s.weights ∷ s.weights))
    ++ (record_of 2 (list_bytes s.lists) ++ (record_of 3 (u16s (s.grid.width ∷ s.grid.height ∷ s.grid.mode ∷ [])) ++ record_of 4 (u16s s.forbids)))
