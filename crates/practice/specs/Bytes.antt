-- The practice ocean's sheet, record by record. Written by tools/practice.py. Follows docs/RULES.md, "Sheet".
-- Assumes nothing.
use Rattle.std.specs.Prelude.{List, [], ◌∷◌, ℕ}

unfoldable pub bytes : List ℕ
bytes =
    28 ∷ 0 ∷ 0 ∷ 0 ∷ 1 ∷ 0 ∷  -- kind 1
    12 ∷ 0 ∷  -- patterns
    40 ∷ 0 ∷  -- weight of arctic pack ice
    90 ∷ 0 ∷  -- weight of polar easterlies
    120 ∷ 0 ∷  -- weight of northern westerlies
    60 ∷ 0 ∷  -- weight of northern horse latitudes
    130 ∷ 0 ∷  -- weight of north-east trades
    40 ∷ 0 ∷  -- weight of squalls
    100 ∷ 0 ∷  -- weight of doldrums
    130 ∷ 0 ∷  -- weight of south-east trades
    60 ∷ 0 ∷  -- weight of southern horse latitudes
    120 ∷ 0 ∷  -- weight of roaring forties
    60 ∷ 0 ∷  -- weight of gales
    40 ∷ 0 ∷  -- weight of antarctic pack ice
    188 ∷ 0 ∷ 0 ∷ 0 ∷ 2 ∷ 0 ∷  -- kind 2
    1 ∷ 0 ∷  -- north of arctic pack ice
    2 ∷ 0 ∷ 1 ∷  -- east of arctic pack ice
    3 ∷ 0 ∷ 1 ∷ 2 ∷  -- south of arctic pack ice
    2 ∷ 0 ∷ 1 ∷  -- west of arctic pack ice
    2 ∷ 0 ∷ 1 ∷  -- north of polar easterlies
    3 ∷ 0 ∷ 1 ∷ 2 ∷  -- east of polar easterlies
    2 ∷ 1 ∷ 2 ∷  -- south of polar easterlies
    3 ∷ 0 ∷ 1 ∷ 2 ∷  -- west of polar easterlies
    3 ∷ 0 ∷ 1 ∷ 2 ∷  -- north of northern westerlies
    3 ∷ 1 ∷ 2 ∷ 3 ∷  -- east of northern westerlies
    3 ∷ 2 ∷ 3 ∷ 4 ∷  -- south of northern westerlies
    3 ∷ 1 ∷ 2 ∷ 3 ∷  -- west of northern westerlies
    2 ∷ 2 ∷ 3 ∷  -- north of northern horse latitudes
    3 ∷ 2 ∷ 3 ∷ 4 ∷  -- east of northern horse latitudes
    2 ∷ 3 ∷ 4 ∷  -- south of northern horse latitudes
    3 ∷ 2 ∷ 3 ∷ 4 ∷  -- west of northern horse latitudes
    4 ∷ 2 ∷ 3 ∷ 4 ∷ 5 ∷  -- north of north-east trades
    4 ∷ 3 ∷ 4 ∷ 5 ∷ 6 ∷  -- east of north-east trades
    3 ∷ 4 ∷ 5 ∷ 6 ∷  -- south of north-east trades
    4 ∷ 3 ∷ 4 ∷ 5 ∷ 6 ∷  -- west of north-east trades
    3 ∷ 4 ∷ 5 ∷ 6 ∷  -- north of squalls
    3 ∷ 4 ∷ 5 ∷ 6 ∷  -- east of squalls
    3 ∷ 4 ∷ 5 ∷ 6 ∷  -- south of squalls
    3 ∷ 4 ∷ 5 ∷ 6 ∷  -- west of squalls
    3 ∷ 4 ∷ 5 ∷ 6 ∷  -- north of doldrums
    4 ∷ 4 ∷ 5 ∷ 6 ∷ 7 ∷  -- east of doldrums
    3 ∷ 5 ∷ 6 ∷ 7 ∷  -- south of doldrums
    4 ∷ 4 ∷ 5 ∷ 6 ∷ 7 ∷  -- west of doldrums
    2 ∷ 6 ∷ 7 ∷  -- north of south-east trades
    3 ∷ 6 ∷ 7 ∷ 8 ∷  -- east of south-east trades
    3 ∷ 7 ∷ 8 ∷ 9 ∷  -- south of south-east trades
    3 ∷ 6 ∷ 7 ∷ 8 ∷  -- west of south-east trades
    2 ∷ 7 ∷ 8 ∷  -- north of southern horse latitudes
    3 ∷ 7 ∷ 8 ∷ 9 ∷  -- east of southern horse latitudes
    2 ∷ 8 ∷ 9 ∷  -- south of southern horse latitudes
    3 ∷ 7 ∷ 8 ∷ 9 ∷  -- west of southern horse latitudes
    4 ∷ 7 ∷ 8 ∷ 9 ∷ 10 ∷  -- north of roaring forties
    4 ∷ 8 ∷ 9 ∷ 10 ∷ 11 ∷  -- east of roaring forties
    3 ∷ 9 ∷ 10 ∷ 11 ∷  -- south of roaring forties
    4 ∷ 8 ∷ 9 ∷ 10 ∷ 11 ∷  -- west of roaring forties
    2 ∷ 9 ∷ 10 ∷  -- north of gales
    3 ∷ 9 ∷ 10 ∷ 11 ∷  -- east of gales
    3 ∷ 9 ∷ 10 ∷ 11 ∷  -- south of gales
    3 ∷ 9 ∷ 10 ∷ 11 ∷  -- west of gales
    3 ∷ 9 ∷ 10 ∷ 11 ∷  -- north of antarctic pack ice
    3 ∷ 9 ∷ 10 ∷ 11 ∷  -- east of antarctic pack ice
    1 ∷ 11 ∷  -- south of antarctic pack ice
    3 ∷ 9 ∷ 10 ∷ 11 ∷  -- west of antarctic pack ice
    8 ∷ 0 ∷ 0 ∷ 0 ∷ 3 ∷ 0 ∷  -- kind 3
    28 ∷ 0 ∷ 12 ∷ 0 ∷ 1 ∷ 0 ∷  -- width, height, mode
    250 ∷ 1 ∷ 0 ∷ 0 ∷ 4 ∷ 0 ∷  -- kind 4
    0 ∷ 0 ∷ 0 ∷ 0 ∷ 1 ∷ 0 ∷  -- cell 0 keeps arctic pack ice
    1 ∷ 0 ∷ 0 ∷ 0 ∷ 1 ∷ 0 ∷  -- cell 1 keeps arctic pack ice
    2 ∷ 0 ∷ 0 ∷ 0 ∷ 1 ∷ 0 ∷  -- cell 2 keeps arctic pack ice
    3 ∷ 0 ∷ 0 ∷ 0 ∷ 1 ∷ 0 ∷  -- cell 3 keeps arctic pack ice
    4 ∷ 0 ∷ 0 ∷ 0 ∷ 1 ∷ 0 ∷  -- cell 4 keeps arctic pack ice
    5 ∷ 0 ∷ 0 ∷ 0 ∷ 1 ∷ 0 ∷  -- cell 5 keeps arctic pack ice
    6 ∷ 0 ∷ 0 ∷ 0 ∷ 1 ∷ 0 ∷  -- cell 6 keeps arctic pack ice
    7 ∷ 0 ∷ 0 ∷ 0 ∷ 1 ∷ 0 ∷  -- cell 7 keeps arctic pack ice
    8 ∷ 0 ∷ 0 ∷ 0 ∷ 1 ∷ 0 ∷  -- cell 8 keeps arctic pack ice
    9 ∷ 0 ∷ 0 ∷ 0 ∷ 1 ∷ 0 ∷  -- cell 9 keeps arctic pack ice
    10 ∷ 0 ∷ 0 ∷ 0 ∷ 1 ∷ 0 ∷  -- cell 10 keeps arctic pack ice
    11 ∷ 0 ∷ 0 ∷ 0 ∷ 1 ∷ 0 ∷  -- cell 11 keeps arctic pack ice
    12 ∷ 0 ∷ 0 ∷ 0 ∷ 1 ∷ 0 ∷  -- cell 12 keeps arctic pack ice
    13 ∷ 0 ∷ 0 ∷ 0 ∷ 1 ∷ 0 ∷  -- cell 13 keeps arctic pack ice
    14 ∷ 0 ∷ 0 ∷ 0 ∷ 1 ∷ 0 ∷  -- cell 14 keeps arctic pack ice
    15 ∷ 0 ∷ 0 ∷ 0 ∷ 1 ∷ 0 ∷  -- cell 15 keeps arctic pack ice
    16 ∷ 0 ∷ 0 ∷ 0 ∷ 1 ∷ 0 ∷  -- cell 16 keeps arctic pack ice
    17 ∷ 0 ∷ 0 ∷ 0 ∷ 1 ∷ 0 ∷  -- cell 17 keeps arctic pack ice
    18 ∷ 0 ∷ 0 ∷ 0 ∷ 1 ∷ 0 ∷  -- cell 18 keeps arctic pack ice
    19 ∷ 0 ∷ 0 ∷ 0 ∷ 1 ∷ 0 ∷  -- cell 19 keeps arctic pack ice
    20 ∷ 0 ∷ 0 ∷ 0 ∷ 1 ∷ 0 ∷  -- cell 20 keeps arctic pack ice
    21 ∷ 0 ∷ 0 ∷ 0 ∷ 1 ∷ 0 ∷  -- cell 21 keeps arctic pack ice
    22 ∷ 0 ∷ 0 ∷ 0 ∷ 1 ∷ 0 ∷  -- cell 22 keeps arctic pack ice
    23 ∷ 0 ∷ 0 ∷ 0 ∷ 1 ∷ 0 ∷  -- cell 23 keeps arctic pack ice
    24 ∷ 0 ∷ 0 ∷ 0 ∷ 1 ∷ 0 ∷  -- cell 24 keeps arctic pack ice
    25 ∷ 0 ∷ 0 ∷ 0 ∷ 1 ∷ 0 ∷  -- cell 25 keeps arctic pack ice
    26 ∷ 0 ∷ 0 ∷ 0 ∷ 1 ∷ 0 ∷  -- cell 26 keeps arctic pack ice
    27 ∷ 0 ∷ 0 ∷ 0 ∷ 1 ∷ 0 ∷  -- cell 27 keeps arctic pack ice
    140 ∷ 0 ∷ 6 ∷ 0 ∷ 1 ∷ 0 ∷  -- cell 140 keeps doldrums
    141 ∷ 0 ∷ 6 ∷ 0 ∷ 1 ∷ 0 ∷  -- cell 141 keeps doldrums
    142 ∷ 0 ∷ 6 ∷ 0 ∷ 1 ∷ 0 ∷  -- cell 142 keeps doldrums
    143 ∷ 0 ∷ 6 ∷ 0 ∷ 1 ∷ 0 ∷  -- cell 143 keeps doldrums
    144 ∷ 0 ∷ 6 ∷ 0 ∷ 1 ∷ 0 ∷  -- cell 144 keeps doldrums
    145 ∷ 0 ∷ 6 ∷ 0 ∷ 1 ∷ 0 ∷  -- cell 145 keeps doldrums
    146 ∷ 0 ∷ 6 ∷ 0 ∷ 1 ∷ 0 ∷  -- cell 146 keeps doldrums
    147 ∷ 0 ∷ 6 ∷ 0 ∷ 1 ∷ 0 ∷  -- cell 147 keeps doldrums
    148 ∷ 0 ∷ 6 ∷ 0 ∷ 1 ∷ 0 ∷  -- cell 148 keeps doldrums
    149 ∷ 0 ∷ 6 ∷ 0 ∷ 1 ∷ 0 ∷  -- cell 149 keeps doldrums
    150 ∷ 0 ∷ 6 ∷ 0 ∷ 1 ∷ 0 ∷  -- cell 150 keeps doldrums
    151 ∷ 0 ∷ 6 ∷ 0 ∷ 1 ∷ 0 ∷  -- cell 151 keeps doldrums
    152 ∷ 0 ∷ 6 ∷ 0 ∷ 1 ∷ 0 ∷  -- cell 152 keeps doldrums
    153 ∷ 0 ∷ 6 ∷ 0 ∷ 1 ∷ 0 ∷  -- cell 153 keeps doldrums
    154 ∷ 0 ∷ 6 ∷ 0 ∷ 1 ∷ 0 ∷  -- cell 154 keeps doldrums
    155 ∷ 0 ∷ 6 ∷ 0 ∷ 1 ∷ 0 ∷  -- cell 155 keeps doldrums
    156 ∷ 0 ∷ 6 ∷ 0 ∷ 1 ∷ 0 ∷  -- cell 156 keeps doldrums
    157 ∷ 0 ∷ 6 ∷ 0 ∷ 1 ∷ 0 ∷  -- cell 157 keeps doldrums
    158 ∷ 0 ∷ 6 ∷ 0 ∷ 1 ∷ 0 ∷  -- cell 158 keeps doldrums
    159 ∷ 0 ∷ 6 ∷ 0 ∷ 1 ∷ 0 ∷  -- cell 159 keeps doldrums
    160 ∷ 0 ∷ 6 ∷ 0 ∷ 1 ∷ 0 ∷  -- cell 160 keeps doldrums
    161 ∷ 0 ∷ 6 ∷ 0 ∷ 1 ∷ 0 ∷  -- cell 161 keeps doldrums
    162 ∷ 0 ∷ 6 ∷ 0 ∷ 1 ∷ 0 ∷  -- cell 162 keeps doldrums
    163 ∷ 0 ∷ 6 ∷ 0 ∷ 1 ∷ 0 ∷  -- cell 163 keeps doldrums
    164 ∷ 0 ∷ 6 ∷ 0 ∷ 1 ∷ 0 ∷  -- cell 164 keeps doldrums
    165 ∷ 0 ∷ 6 ∷ 0 ∷ 1 ∷ 0 ∷  -- cell 165 keeps doldrums
    166 ∷ 0 ∷ 6 ∷ 0 ∷ 1 ∷ 0 ∷  -- cell 166 keeps doldrums
    167 ∷ 0 ∷ 6 ∷ 0 ∷ 1 ∷ 0 ∷  -- cell 167 keeps doldrums
    52 ∷ 1 ∷ 11 ∷ 0 ∷ 1 ∷ 0 ∷  -- cell 308 keeps antarctic pack ice
    53 ∷ 1 ∷ 11 ∷ 0 ∷ 1 ∷ 0 ∷  -- cell 309 keeps antarctic pack ice
    54 ∷ 1 ∷ 11 ∷ 0 ∷ 1 ∷ 0 ∷  -- cell 310 keeps antarctic pack ice
    55 ∷ 1 ∷ 11 ∷ 0 ∷ 1 ∷ 0 ∷  -- cell 311 keeps antarctic pack ice
    56 ∷ 1 ∷ 11 ∷ 0 ∷ 1 ∷ 0 ∷  -- cell 312 keeps antarctic pack ice
    57 ∷ 1 ∷ 11 ∷ 0 ∷ 1 ∷ 0 ∷  -- cell 313 keeps antarctic pack ice
    58 ∷ 1 ∷ 11 ∷ 0 ∷ 1 ∷ 0 ∷  -- cell 314 keeps antarctic pack ice
    59 ∷ 1 ∷ 11 ∷ 0 ∷ 1 ∷ 0 ∷  -- cell 315 keeps antarctic pack ice
    60 ∷ 1 ∷ 11 ∷ 0 ∷ 1 ∷ 0 ∷  -- cell 316 keeps antarctic pack ice
    61 ∷ 1 ∷ 11 ∷ 0 ∷ 1 ∷ 0 ∷  -- cell 317 keeps antarctic pack ice
    62 ∷ 1 ∷ 11 ∷ 0 ∷ 1 ∷ 0 ∷  -- cell 318 keeps antarctic pack ice
    63 ∷ 1 ∷ 11 ∷ 0 ∷ 1 ∷ 0 ∷  -- cell 319 keeps antarctic pack ice
    64 ∷ 1 ∷ 11 ∷ 0 ∷ 1 ∷ 0 ∷  -- cell 320 keeps antarctic pack ice
    65 ∷ 1 ∷ 11 ∷ 0 ∷ 1 ∷ 0 ∷  -- cell 321 keeps antarctic pack ice
    66 ∷ 1 ∷ 11 ∷ 0 ∷ 1 ∷ 0 ∷  -- cell 322 keeps antarctic pack ice
    67 ∷ 1 ∷ 11 ∷ 0 ∷ 1 ∷ 0 ∷  -- cell 323 keeps antarctic pack ice
    68 ∷ 1 ∷ 11 ∷ 0 ∷ 1 ∷ 0 ∷  -- cell 324 keeps antarctic pack ice
    69 ∷ 1 ∷ 11 ∷ 0 ∷ 1 ∷ 0 ∷  -- cell 325 keeps antarctic pack ice
    70 ∷ 1 ∷ 11 ∷ 0 ∷ 1 ∷ 0 ∷  -- cell 326 keeps antarctic pack ice
    71 ∷ 1 ∷ 11 ∷ 0 ∷ 1 ∷ 0 ∷  -- cell 327 keeps antarctic pack ice
    72 ∷ 1 ∷ 11 ∷ 0 ∷ 1 ∷ 0 ∷  -- cell 328 keeps antarctic pack ice
    73 ∷ 1 ∷ 11 ∷ 0 ∷ 1 ∷ 0 ∷  -- cell 329 keeps antarctic pack ice
    74 ∷ 1 ∷ 11 ∷ 0 ∷ 1 ∷ 0 ∷  -- cell 330 keeps antarctic pack ice
    75 ∷ 1 ∷ 11 ∷ 0 ∷ 1 ∷ 0 ∷  -- cell 331 keeps antarctic pack ice
    76 ∷ 1 ∷ 11 ∷ 0 ∷ 1 ∷ 0 ∷  -- cell 332 keeps antarctic pack ice
    77 ∷ 1 ∷ 11 ∷ 0 ∷ 1 ∷ 0 ∷  -- cell 333 keeps antarctic pack ice
    78 ∷ 1 ∷ 11 ∷ 0 ∷ 1 ∷ 0 ∷  -- cell 334 keeps antarctic pack ice
    79 ∷ 1 ∷ 11 ∷ 0 ∷ 1 ∷ 0 ∷  -- cell 335 keeps antarctic pack ice
    []
