-- Six worked cases of propagation on Checker, two patterns that each allow only the other: one table, one claim, by computing.
-- Follows docs/RULES.md, "Propagation". Assumes nothing.
use mathlib.Core.Bool.{Bool, true, false}
use mathlib.Core.List.{List, [], ◌∷◌}
use mathlib.Core.Path.{◌≡◌, refl}
use Prim.Native.Nat.{ℕ}
use Rattle.adjacency.specs.Tables.{Table, table}
use Rattle.adjacency.specs.Checks.{bad_count, offsets_misfit, bad_list, disagree}
use Rattle.adjacency.specs.Accepted.{Accepted}
use Rattle.grid.specs.Grid.{Grid, grid}
use Rattle.consistency.specs.Domains.{settled_as}
use Rattle.consistency.specs.Worklist.{Removal, removal, State}
use Rattle.consistency.specs.Start.{others, reduced}
use Rattle.adjacency.proofs.AcceptedLaws.{accepted_by}

abbrev pub checker : Table
checker = table 2 (0 ∷ 1 ∷ 2 ∷ 3 ∷ 4 ∷ 5 ∷ 6 ∷ 7 ∷ 8 ∷ []) (1 ∷ 1 ∷ 1 ∷ 1 ∷ 0 ∷ 0 ∷ 0 ∷ 0 ∷ [])

pub checker_accepted : Accepted checker
unfolding bad_count offsets_misfit bad_list disagree
checker_accepted = accepted_by checker refl refl refl refl

-- a grid, the removals asked for, the domains that are written and whether they are contradicted
pub record Case : Type 0 where
  pub on : Grid
  pub asked : List Removal
  pub domains : List ℕ
  pub contradicted : Bool

abbrev pub case : Grid → List Removal → List ℕ → Bool → Case
case on asked domains contradicted = record { on = on; asked = asked; domains = domains; contradicted = contradicted }

-- keep only pattern 0 at cell 0
abbrev pub keep0 : List Removal
unfolding others
keep0 = others 2 0 0

abbrev pub cases : List Case
unfolding keep0
cases =
    case (grid 2 1 0) keep0 (1 ∷ 2 ∷ []) false  -- A
    ∷ case (grid 3 1 0) keep0 (1 ∷ 2 ∷ 1 ∷ []) false  -- B
    ∷ case (grid 3 1 1) keep0 (0 ∷ 0 ∷ 0 ∷ []) true  -- C
    ∷ case (grid 1 1 1) [] (3 ∷ []) false  -- D: it stays, though no assignment exists
    ∷ case (grid 1 1 1) keep0 (0 ∷ []) true  -- E
    ∷ case (grid 1 1 0) keep0 (1 ∷ []) false  -- F
    ∷ case (grid 2 1 0) (others 2 1 0) (2 ∷ 1 ∷ []) false  -- A to the west
    ∷ case (grid 1 2 0) keep0 (1 ∷ 2 ∷ []) false  -- A to the south
    ∷ case (grid 1 2 0) (others 2 1 0) (2 ∷ 1 ∷ []) false  -- A to the north
    ∷ []

-- propagated, with the removals kept beside, the last one first
abbrev pub ran : Grid → List Removal → State (List Removal)
unfolding reduced
ran g asked = reduced checker g (λ u D log. u ∷ log) [] asked

abbrev pub Hold : List Case → Type 0
unfolding ran settled_as
Hold [] = Unit {0}
Hold (k ∷ ks) = (settled_as (ran k.on k.asked).domains ≡ k.domains) × ((ran k.on k.asked).empty ≡ k.contradicted) × Hold ks

pub cases-hold : Hold cases
unfolding Hold cases
cases-hold = (refl, refl, (refl, refl, (refl, refl, (refl, refl, (refl, refl, (refl, refl, (refl, refl, (refl, refl, (refl, refl, tt)))))))))

-- the order is seen: in B pattern 1 goes at cell 0, then 0 at cell 1, then 1 at cell 2
pub order_of_B : (ran (grid 3 1 0) keep0).beside ≡ removal 2 1 ∷ removal 1 0 ∷ removal 0 1 ∷ []
unfolding ran keep0
order_of_B = refl

-- "Slope": to the east of 0 may stand 0 and 1, to the east of 1 only 1
abbrev pub slope : Table
slope = table 2 (0 ∷ 1 ∷ 3 ∷ 4 ∷ 5 ∷ 6 ∷ 7 ∷ 8 ∷ 10 ∷ []) (0 ∷ 0 ∷ 1 ∷ 0 ∷ 0 ∷ 1 ∷ 1 ∷ 1 ∷ 0 ∷ 1 ∷ [])

-- what is left on two joined columns without the pattern p in the first
abbrev pub joined_columns : ℕ → List ℕ
unfolding reduced settled_as
joined_columns p = settled_as (reduced slope (grid 2 1 1) {X = List Removal} (λ u D log. log) [] (removal 0 p ∷ [])).domains

-- at width 2 wrapped, East and West are two constraints: each alone would leave both patterns in the second column
pub east_and_west : (joined_columns 1 ≡ 1 ∷ 1 ∷ []) × (joined_columns 0 ≡ 2 ∷ 2 ∷ [])
unfolding joined_columns
east_and_west = (refl, refl)
