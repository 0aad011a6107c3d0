-- The answers about neighbours, and which refusals come first. Follows docs/RULES.md, "Grid" and "Refusals".
-- Assumes nothing.
use Rattle.std.specs.Prelude.{List, [], ◌∷◌, ℕ, Option, Result, Ok, Err}
use Rattle.directions.specs.Directions.{bad_direction}
use Rattle.refusals.specs.declared.Refusal.{Refusal}
use Rattle.refusals.specs.declared.Refusal.TheVariants.{BadSize, BadWrap, BadCell, BadDirection}
use Rattle.refusals.specs.Refusals.{Test, ◌gives◌, Asked, refused, answer, number, checked}
use Rattle.grid.specs.Grid.{Grid, neighbour, bad_size, bad_wrap, bad_cell}

-- the number, or the cell or nothing, that an answer names
unfoldable pub near_of : Result (Option ℕ) Refusal → Asked (Option ℕ)
unfolding number
near_of (Ok near) = answer near
near_of (Err r) = refused (number r)

-- the tests of a neighbour's call in their order: 1, 2, 11, 8
abbrev pub neighbour_tests : Grid → ℕ → ℕ → List Test
neighbour_tests g c d =
    (bad_size g.width g.height gives BadSize)
    ∷ (bad_wrap g.mode gives BadWrap)
    ∷ (bad_direction d gives BadDirection)
    ∷ (bad_cell g c gives BadCell)
    ∷ []

-- what the call comes to: the neighbour, where nothing is refused
unfoldable pub neighbour_asked : Grid → ℕ → ℕ → Asked (Option ℕ)
unfolding checked neighbour bad_size bad_wrap bad_direction bad_cell
neighbour_asked g c d = checked (neighbour_tests g c d) (neighbour g c d)
