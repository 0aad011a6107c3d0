-- The chart of an ocean as text: a grid of cells with its borders, the end of the run in words, and a legend.
-- Follows docs/RULES.md, "Domains", "Grid" and "Run". Assumes nothing.
use Rattle.std.specs.Prelude.{Bool, cond, List, [], ◌∷◌, ◌++◌, ℕ, ◌*◌, ◌/◌, ◌%◌, eqb, length, get_or, take, drop, replicate}
use Rattle.words.specs.Words.{alone, how_many, least}
use Rattle.text.specs.Pages.{ascii, texts, line}
use Rattle.text.specs.Numbers.{decimal, aligned, padded}
use Rattle.practice.specs.Names.{name_of}
use Rattle.chart.specs.Signs.{glyph, joins_x, joins_y, border}
use Rattle.chart.specs.declared.inner.table.Ocean as shown
use Rattle.chart.specs.Tallies.{tally, alike, holding}

-- ---- the grid

-- how many signs wide a cell is: 2, or 3 where two numbers of two digits could meet
unfoldable pub wideness : List ℕ → ℕ
wideness domains = cond (eqb (tally (holding 10) domains) 0) 2 3

-- a cell, so many signs wide: the sign of its pattern, or how many patterns remain, or `?` where none does
unfoldable pub cell_text : ℕ → ℕ → List ℕ
cell_text wide w =
    cond (eqb w 0) (aligned wide (ascii "?")) (cond (eqb (how_many 64 w) 1) (aligned wide (glyph (least 64 w) ∷ [])) (padded wide (how_many 64 w)))

-- the cells of a row
unfoldable pub cells_text : ℕ → List ℕ → List ℕ
cells_text wide row = texts (λ x. cell_text wide (get_or row x 0)) 0 (length row)

-- a row: its number, then its cells between the west and the east border
unfoldable pub row_text : ℕ → ℕ → Bool → List ℕ → List ℕ
row_text wide y joined row = padded 2 y ++ (32 ∷ []) ++ (border joined 124 ∷ []) ++ cells_text wide row ++ (32 ∷ []) ++ (border joined 124 ∷ []) ++ (10 ∷ [])

-- how many whole rows there are
abbrev pub row_count : ℕ → List ℕ → ℕ
row_count width domains = length domains / width

-- row y of the domains
abbrev pub row_of : ℕ → List ℕ → ℕ → List ℕ
row_of width domains y = take width (drop (y * width) domains)

unfoldable pub rows_text : ℕ → ℕ → Bool → List ℕ → List ℕ
rows_text wide width joined domains = texts (λ y. row_text wide y joined (row_of width domains y)) 0 (row_count width domains)

-- the north or the south border: over each cell so many signs, and one more
unfoldable pub border_text : ℕ → ℕ → Bool → List ℕ
border_text wide width joined = ascii "   +" ++ texts (λ x. replicate wide (border joined 45)) 0 width ++ (border joined 45 ∷ []) ++ ascii "+\n"

-- a column's number over every fourth column
unfoldable pub column_text : ℕ → ℕ → List ℕ
column_text wide x = cond (eqb (x % 4) 0) (padded wide x) (replicate wide 32)

unfoldable pub columns_text : ℕ → ℕ → List ℕ
columns_text wide width = ascii "    " ++ texts (column_text wide) 0 width ++ (10 ∷ [])

-- ---- in words

-- which sides are seams
unfoldable pub seam_text : ℕ → List ℕ
seam_text mode = line mode (ascii "No side is joined to another: - and | are edges.\nEast meets west: what leaves at a : comes in at the other one. - is an edge.\nNorth meets south: what leaves at a : comes in at the other one. | is an edge.\nEast meets west and north meets south: what leaves at a : comes in at the other one.") ++ (10 ∷ [])

-- how the run ended, and the words that it used
unfoldable pub end_text : ℕ → ℕ → List ℕ
end_text end words = line end (ascii "Decided: every cell has one pattern.\nUndecided: nothing is left to choose, and some cell has more than one pattern.\nPaused: the words were used up before every cell was decided.\nContradiction: no pattern is left, every cell is empty.") ++ ascii " Words used: " ++ decimal words ++ ascii ".\n"

-- ---- the legend

-- a pattern's name in the practice ocean, where it is laid
unfoldable pub label_text : Bool → ℕ → List ℕ
label_text named p = cond named (ascii ": " ++ name_of p) []

-- a pattern: its sign, in how many cells it stands, its number and its name
unfoldable pub entry_text : Bool → ℕ → ℕ → List ℕ
entry_text named p cells = ascii "  " ++ (glyph p ∷ []) ++ padded 6 cells ++ ascii "  pattern " ++ padded 2 p ++ label_text named p ++ (10 ∷ [])

-- a pattern that stands in some cell
unfoldable pub some_text : Bool → List ℕ → ℕ → List ℕ
some_text named domains p = cond (eqb (tally (alike (alone p)) domains) 0) [] (entry_text named p (tally (alike (alone p)) domains))

-- the cells of a sign that is no pattern's: how many, and what it says, where there are any
unfoldable pub count_text : List ℕ → ℕ → List ℕ → List ℕ
count_text sign cells meaning = cond (eqb cells 0) [] (sign ++ padded 6 cells ++ meaning)

-- the cells that are told by number
abbrev pub open_text : ℕ → List ℕ
open_text cells = count_text (ascii " 2+") cells (ascii "  undecided: the number says how many patterns remain\n")

-- the cells without a pattern
abbrev pub empty_text : ℕ → List ℕ
empty_text cells = count_text (ascii "  ?") cells (ascii "  empty: no pattern remains\n")

unfoldable pub legend_text : Bool → List ℕ → List ℕ
legend_text named domains = texts (some_text named domains) 0 64 ++ open_text (tally (holding 2) domains) ++ empty_text (tally (alike 0) domains)

-- ---- the whole

-- the grid with its borders, each cell so many signs wide
unfoldable pub grid_text : ℕ → ℕ → ℕ → List ℕ → List ℕ
grid_text wide width mode domains =
    columns_text wide width ++ border_text wide width (joins_y mode) ++ rows_text wide width (joins_x mode) domains ++ border_text wide width (joins_y mode)

unfoldable pub chart_text : ℕ → ℕ → Bool → ℕ → ℕ → List ℕ → List ℕ
chart_text width mode named end words domains = grid_text (wideness domains) width mode domains ++ seam_text mode ++ end_text end words ++ legend_text named domains

-- the chart of an ocean
abbrev pub chart_of : shown.Ocean → List ℕ
chart_of o = chart_text o.width o.mode o.named o.end o.words o.domains.now
