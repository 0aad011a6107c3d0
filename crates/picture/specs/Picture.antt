-- The picture of an ocean, as SVG: a unit square for each cell, with a tooltip. Follows docs/RULES.md, "Domains", "Grid" and "Run".
-- Assumes nothing.
use Rattle.std.specs.Prelude.{Bool, cond, List, [], ◌∷◌, ◌++◌, ℕ, ◌+◌, ◌*◌, ◌/◌, ◌%◌, min, eqb, ltb, length, get_or}
use Rattle.words.specs.Words.{alone, how_many, least}
use Rattle.text.specs.Pages.{ascii, texts, line}
use Rattle.text.specs.Numbers.{decimal}
use Rattle.chart.specs.declared.Ocean as shown
use Rattle.chart.specs.Signs.{joins_x, joins_y}
use Rattle.chart.specs.Tallies.{tally, alike}
use Rattle.chart.specs.Chart.{row_count, row_of, end_text, label_text}

-- red, green and blue of each pattern, in a row
unfoldable pub colours : List ℕ
colours =
    232 ∷ 244 ∷ 250 ∷ 158 ∷ 190 ∷ 222 ∷ 62 ∷ 125 ∷ 190 ∷ 214 ∷ 224 ∷ 150 ∷ 72 ∷ 176 ∷ 160 ∷ 120 ∷ 84 ∷ 160 ∷ 250 ∷ 224 ∷ 130 ∷ 40 ∷ 150 ∷ 120 ∷
    226 ∷ 206 ∷ 128 ∷ 30 ∷ 90 ∷ 160 ∷ 168 ∷ 60 ∷ 70 ∷ 205 ∷ 218 ∷ 240 ∷ 235 ∷ 206 ∷ 106 ∷ 137 ∷ 86 ∷ 191 ∷ 67 ∷ 148 ∷ 83 ∷ 235 ∷ 70 ∷ 86 ∷
    57 ∷ 109 ∷ 191 ∷ 115 ∷ 148 ∷ 44 ∷ 235 ∷ 129 ∷ 232 ∷ 105 ∷ 191 ∷ 169 ∷ 148 ∷ 111 ∷ 81 ∷ 125 ∷ 106 ∷ 235 ∷ 101 ∷ 191 ∷ 86 ∷ 148 ∷ 67 ∷ 102 ∷
    70 ∷ 189 ∷ 235 ∷ 191 ∷ 189 ∷ 57 ∷ 116 ∷ 44 ∷ 148 ∷ 129 ∷ 235 ∷ 172 ∷ 191 ∷ 115 ∷ 105 ∷ 81 ∷ 93 ∷ 148 ∷ 167 ∷ 235 ∷ 106 ∷ 191 ∷ 86 ∷ 166 ∷
    67 ∷ 148 ∷ 143 ∷ 235 ∷ 177 ∷ 70 ∷ 106 ∷ 57 ∷ 191 ∷ 44 ∷ 148 ∷ 51 ∷ 235 ∷ 129 ∷ 153 ∷ 105 ∷ 150 ∷ 191 ∷ 135 ∷ 148 ∷ 81 ∷ 222 ∷ 106 ∷ 235 ∷
    86 ∷ 191 ∷ 150 ∷ 148 ∷ 92 ∷ 67 ∷ 75 ∷ 70 ∷ 235 ∷ 93 ∷ 191 ∷ 57 ∷ 148 ∷ 44 ∷ 102 ∷ 129 ∷ 219 ∷ 235 ∷ 191 ∷ 179 ∷ 105 ∷ 119 ∷ 81 ∷ 148 ∷
    106 ∷ 235 ∷ 141 ∷ 191 ∷ 86 ∷ 88 ∷ 67 ∷ 92 ∷ 148 ∷ 169 ∷ 235 ∷ 70 ∷ 191 ∷ 57 ∷ 177 ∷ 44 ∷ 148 ∷ 129 ∷ 235 ∷ 184 ∷ 129 ∷ 125 ∷ 105 ∷ 191 ∷
    85 ∷ 148 ∷ 81 ∷ 235 ∷ 106 ∷ 151 ∷ 86 ∷ 154 ∷ 191 ∷ 143 ∷ 148 ∷ 67 ∷ 197 ∷ 70 ∷ 235 ∷ 57 ∷ 191 ∷ 122 ∷ 148 ∷ 64 ∷ 44 ∷ 129 ∷ 140 ∷ 235 ∷ []

-- red (0), green (1) or blue (2) of a pattern, and black past the last
unfoldable pub part : ℕ → ℕ → ℕ
part p k = cond (ltb p 64) (get_or colours (3 * p + k) 0) 0

unfoldable pub colour_text : ℕ → List ℕ
colour_text p = ascii "rgb(" ++ decimal (part p 0) ++ (44 ∷ []) ++ decimal (part p 1) ++ (44 ∷ []) ++ decimal (part p 2) ++ (41 ∷ [])

-- ---- a cell

-- a unit square, up to its colour
unfoldable pub square_text : ℕ → ℕ → List ℕ
square_text x y = ascii "<rect x=\"" ++ decimal x ++ ascii "\" y=\"" ++ decimal y ++ ascii "\" width=\"1\" height=\"1\" fill=\""

-- where a cell is, in words
unfoldable pub place_text : ℕ → ℕ → List ℕ
place_text x y = ascii "\"><title>column " ++ decimal x ++ ascii ", row " ++ decimal y ++ ascii ": "

-- what a cell is filled with: its pattern's colour, hatching where it is undecided, black where it is empty
unfoldable pub fill_text : ℕ → List ℕ
fill_text w = cond (eqb w 0) (ascii "black") (cond (eqb (how_many 64 w) 1) (colour_text (least 64 w)) (ascii "url(#open)"))

-- what a cell is, in words
unfoldable pub told_text : Bool → ℕ → List ℕ
told_text named w =
    cond (eqb w 0) (ascii "no pattern remains")
    (cond (eqb (how_many 64 w) 1) (ascii "pattern " ++ decimal (least 64 w) ++ label_text named (least 64 w)) (decimal (how_many 64 w) ++ ascii " patterns remain"))

-- how many patterns remain, written on an undecided cell
unfoldable pub mark_text : ℕ → ℕ → ℕ → List ℕ
mark_text x y w =
    cond (ltb (how_many 64 w) 2) []
    (ascii "<text x=\"" ++ decimal x ++ ascii "\" y=\"" ++ decimal y ++ ascii "\" dx=\".5\" dy=\".7\" text-anchor=\"middle\">" ++ decimal (how_many 64 w) ++ ascii "</text>")

-- a cell
unfoldable pub tile_text : Bool → ℕ → ℕ → ℕ → List ℕ
tile_text named x y w = square_text x y ++ fill_text w ++ place_text x y ++ told_text named w ++ ascii "</title></rect>" ++ mark_text x y w ++ (10 ∷ [])

-- ---- a row

unfoldable pub tiles_text : Bool → ℕ → List ℕ → List ℕ
tiles_text named y row = texts (λ x. tile_text named x y (get_or row x 0)) 0 (length row)

-- row y of a picture, and no text past the last
unfoldable pub picture_row : ℕ → Bool → List ℕ → ℕ → List ℕ
picture_row width named domains y = cond (ltb y (row_count width domains)) (tiles_text named y (row_of width domains y)) []

-- ---- what stands around the cells

-- so much below the grid, of which 64 rows count at most
unfoldable pub beneath : ℕ → ℕ → ℕ
beneath height k = min height 64 + k

-- how wide a picture is: as wide as its grid with a margin, and no narrower than the four columns of the legend
unfoldable pub breadth : ℕ → ℕ
breadth width = cond (ltb width 36) 38 (beneath width 2)

-- how a side is drawn: a seam is dashed
unfoldable pub stroke_text : Bool → List ℕ
stroke_text joined = cond joined (ascii "\" stroke=\"black\" stroke-width=\".12\" stroke-dasharray=\".4 .3\"/>\n") (ascii "\" stroke=\"black\" stroke-width=\".12\"/>\n")

-- the west and the east side
unfoldable pub upright_text : ℕ → ℕ → Bool → List ℕ
upright_text width height joined =
    ascii "<path d=\"M0 0V" ++ decimal height ++ ascii "M" ++ decimal width ++ ascii " 0V" ++ decimal height ++ stroke_text joined

-- the north and the south side
unfoldable pub level_text : ℕ → ℕ → Bool → List ℕ
level_text width height joined =
    ascii "<path d=\"M0 0H" ++ decimal width ++ ascii "M0 " ++ decimal height ++ ascii "H" ++ decimal width ++ stroke_text joined

-- the size of a picture
unfoldable pub size_text : ℕ → ℕ → List ℕ
size_text width height =
    ascii "<svg xmlns=\"http://www.w3.org/2000/svg\" viewBox=\"-1 -2 " ++ decimal (breadth width) ++ ascii " " ++ decimal (beneath height 21)
    ++ ascii "\" font-family=\"sans-serif\" font-size=\".6\">\n"

-- the hatching of an undecided cell
unfoldable pub hatch_text : List ℕ
hatch_text = ascii "<defs><pattern id=\"open\" width=\".3\" height=\".3\" patternUnits=\"userSpaceOnUse\" patternTransform=\"rotate(45)\"><rect width=\".3\" height=\".3\" fill=\"#ddd\"/><rect width=\".1\" height=\".3\" fill=\"#aaa\"/></pattern></defs>\n<text x=\"0\" y=\"-1\" dy=\".4\">"

-- which sides are seams
unfoldable pub seams_text : ℕ → List ℕ
seams_text mode = line mode (ascii "No side is joined to another.\nEast meets west at the dashed sides.\nNorth meets south at the dashed sides.\nEast meets west and north meets south at the dashed sides.")

-- what hatched and black cells are, by how the run ended, on a line of its own
unfoldable pub key_text : ℕ → List ℕ
key_text end = line end (ascii "\n<tspan x=\"0\" dy=\".75\">Hatched cells are undecided and show how many patterns remain.</tspan>\n<tspan x=\"0\" dy=\".75\">Hatched cells are undecided and show how many patterns remain.</tspan>\n<tspan x=\"0\" dy=\".75\">Black cells have no pattern left.</tspan>")

-- how the run ended, below the grid, and what hatched and black cells are
unfoldable pub foot_text : ℕ → ℕ → ℕ → List ℕ
foot_text height end words = ascii "</text>\n<text x=\"0\" y=\"" ++ decimal (beneath height 1) ++ ascii "\">" ++ end_text end words ++ key_text end ++ ascii "</text>\n"

-- the start of a picture
unfoldable pub head_text : ℕ → ℕ → ℕ → ℕ → ℕ → List ℕ
head_text width height mode end words = size_text width height ++ hatch_text ++ seams_text mode ++ foot_text height end words

-- ---- the legend

-- where the words beside a pattern's colour begin
unfoldable pub beside_text : ℕ → ℕ → List ℕ
beside_text x y = ascii "\"/><text x=\"" ++ decimal x ++ ascii "\" y=\"" ++ decimal y ++ ascii "\" dx=\"1.3\" dy=\".7\">pattern "

-- beside a pattern's colour: its number and name, and in how many cells it stands
unfoldable pub caption_text : ℕ → ℕ → Bool → ℕ → ℕ → List ℕ
caption_text x y named p cells = beside_text x y ++ decimal p ++ label_text named p ++ ascii ", cells: " ++ decimal cells ++ ascii "</text>\n"

-- a pattern's entry, sixteen to a column
unfoldable pub swatch_text : ℕ → Bool → ℕ → ℕ → List ℕ
swatch_text height named p cells =
    square_text (p / 16 * 9) (beneath height (p % 16 + 2)) ++ colour_text p ++ caption_text (p / 16 * 9) (beneath height (p % 16 + 2)) named p cells

-- the entry of a pattern that stands in some cell
unfoldable pub shown_text : ℕ → Bool → List ℕ → ℕ → List ℕ
shown_text height named domains p = cond (eqb (tally (alike (alone p)) domains) 0) [] (swatch_text height named p (tally (alike (alone p)) domains))

-- the end of a picture: the sides over the cells, and the legend
unfoldable pub tail_text : ℕ → ℕ → ℕ → Bool → List ℕ → List ℕ
tail_text width height mode named domains =
    upright_text width height (joins_x mode) ++ level_text width height (joins_y mode) ++ texts (shown_text height named domains) 0 64 ++ ascii "</svg>\n"

-- ---- the whole

unfoldable pub picture_text : ℕ → ℕ → ℕ → Bool → ℕ → ℕ → List ℕ → List ℕ
picture_text width height mode named end words domains =
    head_text width height mode end words ++ texts (picture_row width named domains) 0 height ++ tail_text width height mode named domains

-- ---- of an ocean

abbrev pub head_of : shown.Ocean → List ℕ
head_of o = head_text o.width o.height o.mode o.end o.words

abbrev pub picture_row_of : shown.Ocean → ℕ → List ℕ
picture_row_of o y = picture_row o.width o.named o.domains.now y

abbrev pub tail_of : shown.Ocean → List ℕ
tail_of o = tail_text o.width o.height o.mode o.named o.domains.now
