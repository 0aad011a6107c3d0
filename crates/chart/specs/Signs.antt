-- The signs of a chart. Follows docs/RULES.md, "Grid".
-- Assumes nothing.
use Rattle.std.specs.Prelude.{Bool, cond, List, ℕ, ltb, get_or}
use Rattle.grid.specs.Grid.{grid, wraps_x, wraps_y}
use Rattle.text.specs.Pages.{ascii}

-- the sign of each pattern: letters and signs, no digits, since a digit says how many patterns remain
unfoldable pub glyphs : List ℕ
glyphs = ascii "#<>~/!.\\=}%*ABCDEFGHIJKLMNOPQRSTUVWXYZabcdefghijklmnopqrstuvwxyz"

-- the sign of a pattern, and `?` past the last
unfoldable pub glyph : ℕ → ℕ
unfolding glyphs
glyph p = cond (ltb p 64) (get_or glyphs p 0) 63

-- whether a grid of that mode joins its east edge to its west edge
unfoldable pub joins_x : ℕ → Bool
unfolding wraps_x
joins_x mode = wraps_x (grid 1 1 mode)

-- whether it joins its south edge to its north edge
unfoldable pub joins_y : ℕ → Bool
unfolding wraps_y
joins_y mode = wraps_y (grid 1 1 mode)

-- the sign of a border: `:` where it is a seam, else that of an edge
unfoldable pub border : Bool → ℕ → ℕ
border joined edge = cond joined 58 edge
