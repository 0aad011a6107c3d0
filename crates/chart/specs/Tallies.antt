-- How many cells there are of each kind: decided as a pattern, undecided, empty. Follows docs/RULES.md, "Domains".
-- Assumes nothing.
use Rattle.std.specs.Prelude.{Bool, List, ℕ, count_by, eqb, leb}
use Rattle.words.specs.Words.{how_many}

-- how many entries pass the test
abbrev pub tally : (ℕ → Bool) → List ℕ → ℕ
tally f l = count_by f l

-- a cell with exactly the patterns of a word
abbrev pub alike : ℕ → ℕ → Bool
alike word w = eqb w word

-- a cell with so many patterns or more
abbrev pub holding : ℕ → ℕ → Bool
holding many w = leb many (how_many 64 w)
