-- The order by value and then by word: how two cells are compared by entropy and then by noise. Follows docs/RULES.md, "Run".
-- Assumes nothing.
use Rattle.std.specs.Prelude.{Bool, ◌&&◌, ◌||◌, ℕ, ltb, Float}
use Rattle.std.specs.Float.Ieee.{lt, eq}

-- the first value is less, or they are equal and the first word is less
unfoldable pub beats : Float → ℕ → Float → ℕ → Bool
beats x n y m = lt x y || (eq x y && ltb n m)
