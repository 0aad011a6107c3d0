-- The words of a file: four bytes each, the lowest first. Follows docs/RULES.md, "Domains" and "Sheet".
-- Assumes nothing.
use Rattle.std.specs.Prelude.{ℕ, zero, suc, ◌+◌, ◌*◌, List, [], ◌∷◌, ◌++◌, slice_index}

-- the word that starts at byte i
unfoldable pub word_at : List ℕ → ℕ → ℕ
word_at bytes i = slice_index bytes i + 256 * slice_index bytes (i + 1) + 65536 * slice_index bytes (i + 2) + 16777216 * slice_index bytes (i + 3)

-- the first n words of a file
unfoldable pub words_in : List ℕ → ℕ → List ℕ
words_in bytes zero = []
words_in bytes (suc n) = words_in bytes n ++ (word_at bytes (4 * n) ∷ [])
