-- The four directions by number, North, East, South, West: their opposites and steps, as tables. Follows docs/RULES.md, "Directions".
-- Assumes nothing.
use Rattle.std.specs.Prelude.{Bool, List, [], ◌∷◌, ℕ, ltb, ℤ, pos, negsuc, get_or}

-- what a step adds: -1, 0 or 1
abbrev pub back : ℤ
back = negsuc 0

abbrev pub stay : ℤ
stay = pos 0

abbrev pub on : ℤ
on = pos 1

-- the opposites, in the order of the directions
abbrev pub opposites : List ℕ
opposites = 2 ∷ 3 ∷ 0 ∷ 1 ∷ []

-- the steps over the columns and over the rows, in the order of the directions
abbrev pub steps_x : List ℤ
steps_x = stay ∷ on ∷ stay ∷ back ∷ []

abbrev pub steps_y : List ℤ
steps_y = back ∷ stay ∷ on ∷ stay ∷ []

-- the direction that leads back
unfoldable pub opposite : ℕ → ℕ
opposite d = get_or opposites d 0

-- what a step in a direction adds to the column, and to the row
unfoldable pub step_x : ℕ → ℤ
step_x d = get_or steps_x d stay

unfoldable pub step_y : ℕ → ℤ
step_y d = get_or steps_y d stay

-- the direction is over 3
unfoldable pub bad_direction : ℕ → Bool
bad_direction d = ltb 3 d
