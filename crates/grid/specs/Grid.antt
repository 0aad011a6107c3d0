-- The grid: width, height and wrap mode, where 1 joins east and west, 2 north and south, 3 both; cells are numbered row by row. Follows docs/RULES.md, "Grid".
-- Assumes nothing.
use Rattle.std.specs.Prelude.{Bool, cond, ◌||◌, ℕ, zero, suc, ◌+◌, ◌-◌, ◌*◌, ◌/◌, ◌%◌, ◌≤◌, leb, ltb, eqb, ℤ, pos, negsuc, Option, None, Some}
use Rattle.directions.specs.Directions.{step_x, step_y}
use Rattle.grid.specs.declared.Grid as lent

-- a grid as it is lent, accepted or not
abbrev pub Grid : Type 0
Grid = lent.Grid

-- the grid of a width, a height and a mode
abbrev pub grid : ℕ → ℕ → ℕ → Grid
grid width height mode = record { width = width; height = height; mode = mode }

-- how many cells it has
abbrev pub cells : Grid → ℕ
cells g = g.height * g.width

-- mode 1 and 3 wrap in x, mode 2 and 3 in y
unfoldable pub wraps_x : Grid → Bool
wraps_x g = eqb (g.mode % 2) 1

unfoldable pub wraps_y : Grid → Bool
wraps_y g = leb 2 g.mode

-- ---- neighbours

-- past an edge: the place at the other end where the side wraps, none where it does not
unfoldable pub round : Bool → ℕ → Option ℕ
round wraps i = cond wraps (Some i) None

-- one step on along a side of n places
unfoldable pub after : Bool → ℕ → ℕ → Option ℕ
unfolding round
after wraps n i = cond (ltb (suc i) n) (Some (suc i)) (round wraps 0)

-- one step back along a side of n places
unfoldable pub before : Bool → ℕ → ℕ → Option ℕ
unfolding round
before wraps n zero = round wraps (n - 1)
before wraps n (suc i) = Some i

-- the place that a step of -1, 0 or 1 leads to, none past an edge
unfoldable pub along : Bool → ℕ → ℕ → ℤ → Option ℕ
unfolding after before
along wraps n i (pos zero) = Some i
along wraps n i (pos (suc k)) = after wraps n i
along wraps n i (negsuc k) = before wraps n i

-- the column and the row of the cell in direction d of c, none past an edge
unfoldable pub column : Grid → ℕ → ℕ → Option ℕ
unfolding along wraps_x step_x
column g c d = along (wraps_x g) g.width (c % g.width) (step_x d)

unfoldable pub row : Grid → ℕ → ℕ → Option ℕ
unfolding along wraps_y step_y
row g c d = along (wraps_y g) g.height (c / g.width) (step_y d)

-- the cell at a column and a row, none past an edge
abbrev pub at : ℕ → Option ℕ → Option ℕ → Option ℕ
at width (Some x) (Some y) = Some (y * width + x)
at width (Some x) None = None
at width None y = None

-- the cell in direction d of c, or none at an edge that does not wrap
unfoldable pub neighbour : Grid → ℕ → ℕ → Option ℕ
unfolding column row
neighbour g c d = at g.width (column g c d) (row g c d)

-- ---- refusals

-- a side is 0 or over 64
unfoldable pub bad_side : ℕ → Bool
bad_side n = eqb n 0 || ltb 64 n

-- a side is bad, or there are over 1,024 cells
unfoldable pub bad_size : ℕ → ℕ → Bool
unfolding bad_side
bad_size width height = bad_side width || bad_side height || ltb 1024 (height * width)

-- the mode is over 3
unfoldable pub bad_wrap : ℕ → Bool
bad_wrap mode = ltb 3 mode

-- the cell is not in the grid
unfoldable pub bad_cell : Grid → ℕ → Bool
bad_cell g c = leb (cells g) c

-- what an accepted grid is
pub record Sized (g : Grid) : Type 0 where
  pub wide : 1 ≤ g.width
  pub narrow : g.width ≤ 64
  pub tall : 1 ≤ g.height
  pub low : g.height ≤ 64
  pub few : cells g ≤ 1024
  pub known : g.mode ≤ 3
