-- Computed: what a forbid takes itself proposes no note. Follows docs/RULES.md, "Run". Assumes nothing.
use mathlib.Core.List.{[], ◌∷◌}
use mathlib.Core.Path.{◌≡◌, refl}
use lib.ListN.{replicate}
use Rattle.adjacency.specs.Tables.{table}
use Rattle.grid.specs.Grid.{grid}
use Rattle.consistency.specs.Worklist.{removal}
use Rattle.course.specs.Run.{Given, given, begun, reduced_by}

-- one cell, and three patterns of weight 1
abbrev alone : Given
alone = given (table 3 (replicate 13 0) []) (1 ∷ 1 ∷ 1 ∷ []) (grid 1 1 0) (0 ∷ [])

-- it begins with a note of three patterns, and keeps that note when a forbid takes one
pub forbid-proposes_nothing :
    ((begun alone).beside.marks ≡ 3 ∷ 0 ∷ [])
    × ((reduced_by alone (removal 0 0 ∷ []) (begun alone)).domains ≡ 6 ∷ [])
    × ((reduced_by alone (removal 0 0 ∷ []) (begun alone)).beside.marks ≡ 3 ∷ 0 ∷ [])
unfolding begun reduced_by
forbid-proposes_nothing = (refl, refl, refl)
