-- Looking a list up: that part of the ids, or nothing where the call is refused, and beside it the number. Follows docs/RULES.md, "Tables" and "Refusals".
-- Assumes nothing.
use Rattle.std.specs.Prelude.{Bool, cond, List, [], ◌∷◌, ℕ, leb, eqb}
use Rattle.directions.specs.Directions.{bad_direction}
use Rattle.refusals.specs.declared.Refusal.TheVariants.{BadCount, BadLength, BadList, Disagree, BadDirection, BadPattern}
use Rattle.refusals.specs.Refusals.{Test, ◌gives◌, first_of}
use Rattle.adjacency.specs.Tables.{Table, list_of}
use Rattle.adjacency.specs.Checks.{bad_count, offsets_misfit, bad_list, disagree}

-- the pattern is P or more
unfoldable pub bad_pattern : ℕ → ℕ → Bool
bad_pattern P p = leb P p

-- the tests of a lookup in their order: 3, 5, 6, 7, 11, 9
abbrev pub list_tests : Table → ℕ → ℕ → List Test
list_tests t p d =
    (bad_count t.count gives BadCount)
    ∷ (offsets_misfit t.count t.offsets gives BadLength)
    ∷ (bad_list t gives BadList)
    ∷ (disagree t gives Disagree)
    ∷ (bad_direction d gives BadDirection)
    ∷ (bad_pattern t.count p gives BadPattern)
    ∷ []

-- the number of the first refusal, 0 where the list is answered
unfoldable pub list_refusal : Table → ℕ → ℕ → ℕ
unfolding first_of bad_count offsets_misfit bad_list disagree bad_direction bad_pattern
list_refusal t p d = first_of (list_tests t p d)

-- the list where nothing is refused, and an empty part otherwise
unfoldable pub list_answer : Table → ℕ → ℕ → List ℕ
unfolding list_refusal list_of
list_answer t p d = cond (eqb (list_refusal t p d) 0) (list_of t p d) []
