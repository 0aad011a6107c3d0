-- The cells by blocks of 32. For each block a mark tells what the observer last found there, or 0 where it must look again; so a run finds its cell without
-- looking at all of them. These marks stand after the two that each cell has, and what a run does is told without them.
-- Follows docs/RULES.md, "Run". Assumes nothing.
use Rattle.std.specs.Prelude.{List, ◌⊎◌, ◌≡◌, ℕ, ◌+◌, ◌*◌, ◌/◌, ◌<◌, Float, length, get_or, set}
use Rattle.std.specs.Float.{nan}

-- how many blocks n cells have
abbrev pub blocks : ℕ → ℕ
blocks n = (n + 31) / 32

-- the block of cell c
abbrev pub block_of : ℕ → ℕ
block_of c = c / 32

-- where the mark of block y stands: after two marks for each of n cells
abbrev pub block_at : ℕ → ℕ → ℕ
block_at n y = 2 * n + y

-- something changed at cell c: what was found in its block no longer holds
unfoldable pub touched : ℕ → ℕ → List ℕ → List ℕ
touched n c marks = set marks (block_at n (block_of c)) 0

-- over the words, floats and marks of n cells, before and after
module _ (n : ℕ) (D : List ℕ) (floats : List Float) (marks : List ℕ) (D' : List ℕ) (floats' : List Float) (marks' : List ℕ) where
  -- cell c has the word, the noted entropy and the weighted count that it had
  abbrev pub SameCell : ℕ → Type 0
  SameCell c = (get_or D' c 0 ≡ get_or D c 0) × (get_or floats' (n + c) nan ≡ get_or floats (n + c) nan) × (get_or marks' c 0 ≡ get_or marks c 0)

  -- every block in which something changed was touched: its mark is 0, or it is as it was and so is each cell of the block
  pub record Watched : Type 0 where
    pub long : length marks' ≡ length marks
    pub each : (y : ℕ) → y < blocks n
        → (get_or marks' (block_at n y) 0 ≡ 0)
        ⊎ ((get_or marks' (block_at n y) 0 ≡ get_or marks (block_at n y) 0) × ((c : ℕ) → c < n → block_of c ≡ y → SameCell c))
