-- The smallest sheet and its result, byte for byte. Follows docs/RULES.md, "Sheet".
-- Assumes nothing.
use mathlib.Core.Bool.{true}
use mathlib.Core.List.{List, [], ◌∷◌, ◌++◌}
use mathlib.Core.Path.{◌≡◌, refl}
use Prim.Native.Nat.{ℕ}
use lib.Ieee.{binary32, of_bits}
use lib.ListN.{take, drop, replicate}
use Rattle.refusals.specs.Refusals.{refused, answer}
use Rattle.adjacency.specs.Tables.{table}
use Rattle.grid.specs.Grid.{grid}
use Rattle.course.specs.Run.{given, ended}
use Rattle.course.specs.Called.{memory}
use Rattle.layout.specs.Sheet.{Sheet, sheet, bytes_of}
use Rattle.layout.specs.Reading.{well_formed, sheet_in}
use Rattle.layout.specs.Tables.{table_of}
use Rattle.sheet.specs.Result.{result_of, ResultOutcome, result_called}
use Rattle.layout.specs.Lending.{lent}
use Rattle.sheet.specs.Called.{sizes_asked, read_outcome, read_called, write_outcome, write_called}

-- one pattern of weight 1 that may stand beside itself, on one cell without wrap
abbrev pub smallest : Sheet
smallest = sheet (1 ∷ []) ((0 ∷ []) ∷ (0 ∷ []) ∷ (0 ∷ []) ∷ (0 ∷ []) ∷ []) (grid 1 1 0) []

-- its four records, one to a line
abbrev pub smallest_bytes : List ℕ
smallest_bytes =
    0x06 ∷ 0x00 ∷ 0x00 ∷ 0x00 ∷ 0x01 ∷ 0x00 ∷ 0x01 ∷ 0x00 ∷ 0x01 ∷ 0x00
    ∷ 0x0A ∷ 0x00 ∷ 0x00 ∷ 0x00 ∷ 0x02 ∷ 0x00 ∷ 0x01 ∷ 0x00 ∷ 0x01 ∷ 0x00 ∷ 0x01 ∷ 0x00 ∷ 0x01 ∷ 0x00
    ∷ 0x08 ∷ 0x00 ∷ 0x00 ∷ 0x00 ∷ 0x03 ∷ 0x00 ∷ 0x01 ∷ 0x00 ∷ 0x01 ∷ 0x00 ∷ 0x00 ∷ 0x00
    ∷ 0x02 ∷ 0x00 ∷ 0x00 ∷ 0x00 ∷ 0x04 ∷ 0x00 ∷ []

pub smallest_bytes_lem : bytes_of smallest ≡ smallest_bytes
unfolding bytes_of
smallest_bytes_lem = refl

pub smallest_read : (well_formed smallest_bytes ≡ true) × (sheet_in smallest_bytes ≡ smallest)
unfolding well_formed sheet_in
smallest_read = (refl, refl)

-- its result: Decided, no words, pattern 0: 0E000000 0500 0000 0000 0100000000000000
abbrev pub smallest_result : List ℕ
smallest_result =
    0x0E ∷ 0x00 ∷ 0x00 ∷ 0x00 ∷ 0x05 ∷ 0x00 ∷ 0x00 ∷ 0x00 ∷ 0x00 ∷ 0x00 ∷ 0x01 ∷ 0x00 ∷ 0x00 ∷ 0x00 ∷ 0x00 ∷ 0x00 ∷ 0x00 ∷ 0x00 ∷ []

pub smallest_result_lem : result_of (ended 0 0 (1 ∷ [])) ≡ smallest_result
unfolding result_of
smallest_result_lem = refl

-- ---- what the calls come to

pub smallest_sizes : sizes_asked smallest_bytes ≡ answer (record { count = 1; ids = 4; width = 1; height = 1; mode = 0; forbids = 0 })
unfolding sizes_asked
smallest_sizes = refl

-- an id's room and a forbid's room past the last stay
pub smallest_filled : read_called smallest_bytes (lent (9 ∷ []) (9 ∷ 9 ∷ 9 ∷ 9 ∷ 9 ∷ []) (9 ∷ 9 ∷ 9 ∷ 9 ∷ 7 ∷ []) (8 ∷ []))
    ≡ read_outcome (answer (record { count = 1; ids = 4; width = 1; height = 1; mode = 0; forbids = 0 }))
    (lent (1 ∷ []) (0 ∷ 1 ∷ 2 ∷ 3 ∷ 4 ∷ []) (0 ∷ 0 ∷ 0 ∷ 0 ∷ 7 ∷ []) (8 ∷ []))
unfolding read_called
smallest_filled = refl

-- one byte past the sheet stays; one byte too few is refused
pub smallest_written : write_called (table 1 (0 ∷ 1 ∷ 2 ∷ 3 ∷ 4 ∷ []) (0 ∷ 0 ∷ 0 ∷ 0 ∷ [])) (1 ∷ []) (grid 1 1 0) [] (replicate 42 9 ++ (7 ∷ []))
    ≡ write_outcome (answer 42) (smallest_bytes ++ (7 ∷ []))
unfolding write_called
smallest_written = refl

pub smallest_short : write_called (table 1 (0 ∷ 1 ∷ 2 ∷ 3 ∷ 4 ∷ []) (0 ∷ 0 ∷ 0 ∷ 0 ∷ [])) (1 ∷ []) (grid 1 1 0) [] (replicate 41 9) ≡ write_outcome (refused 5) (replicate 41 9)
unfolding write_called
smallest_short = refl

-- ---- bytes that are no sheet

pub none_refused : sizes_asked [] ≡ refused 10
unfolding sizes_asked
none_refused = refl

pub cut-refused : sizes_asked (take 41 smallest_bytes) ≡ refused 10
unfolding sizes_asked
cut-refused = refl

pub long-refused : sizes_asked (smallest_bytes ++ (0 ∷ [])) ≡ refused 10
unfolding sizes_asked
long-refused = refl

-- a length of 2^32 - 1
pub huge-refused : sizes_asked (0xFF ∷ 0xFF ∷ 0xFF ∷ 0xFF ∷ drop 4 smallest_bytes) ≡ refused 10
unfolding sizes_asked
huge-refused = refl

-- kinds 2 and 1
pub swapped-refused : sizes_asked (drop 10 smallest_bytes ++ take 10 smallest_bytes) ≡ refused 10
unfolding sizes_asked
swapped-refused = refl

-- a forbid of kind 1, and of kind 2
pub kept-sizes : sizes_asked (take 36 smallest_bytes ++ (0x08 ∷ 0x00 ∷ 0x00 ∷ 0x00 ∷ 0x04 ∷ 0x00 ∷ 0x00 ∷ 0x00 ∷ 0x00 ∷ 0x00 ∷ 0x01 ∷ 0x00 ∷ []))
    ≡ answer (record { count = 1; ids = 4; width = 1; height = 1; mode = 0; forbids = 1 })
unfolding sizes_asked
kept-sizes = refl

pub kind-refused : sizes_asked (take 36 smallest_bytes ++ (0x08 ∷ 0x00 ∷ 0x00 ∷ 0x00 ∷ 0x04 ∷ 0x00 ∷ 0x00 ∷ 0x00 ∷ 0x00 ∷ 0x00 ∷ 0x02 ∷ 0x00 ∷ [])) ≡ refused 10
unfolding sizes_asked
kind-refused = refl

-- no pattern at all: the bytes are a sheet, so the count is refused
pub empty-refused : read_called
    (0x04 ∷ 0x00 ∷ 0x00 ∷ 0x00 ∷ 0x01 ∷ 0x00 ∷ 0x00 ∷ 0x00 ∷ 0x02 ∷ 0x00 ∷ 0x00 ∷ 0x00 ∷ 0x02 ∷ 0x00 ∷ drop 24 smallest_bytes) (lent [] [] [] [])
    ≡ read_outcome (refused 3) (lent [] [] [] [])
unfolding read_called
empty-refused = refl

-- its run, with an output of so many sevens
abbrev smallest_run : ℕ → ResultOutcome
smallest_run n =
    result_called (given (table_of smallest) (1 ∷ []) (grid 1 1 0) (0 ∷ [])) [] []
    (memory (7 ∷ []) (replicate 4 7) (7 ∷ []) (replicate 2 (of_bits binary32 0)) (replicate 3 7)) (replicate n 7)

-- an output of 20 bytes keeps the last two; one of 17 is too short, and stays
pub smallest_run_lem : ((smallest_run 20).run.told ≡ answer (record { end = 0; used = 0 })) × ((smallest_run 20).out ≡ smallest_result ++ (7 ∷ 7 ∷ []))
    × ((smallest_run 17).run.told ≡ refused 5) × ((smallest_run 17).out ≡ replicate 17 7)
unfolding result_called table_of
smallest_run_lem = (refl, refl, refl, refl)
