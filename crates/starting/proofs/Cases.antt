-- Computed claims on the definitions: six worked cases of the public call on Checker as one table, both sides of its limits, and the order of its refusals.
-- Follows docs/RULES.md, "Propagation" and "Refusals". Assumes nothing.
use mathlib.Core.Bool.{Bool, true, false}
use mathlib.Core.List.{List, [], ◌∷◌}
use mathlib.Core.Path.{◌≡◌, refl}
use Prim.Native.Nat.{ℕ, ◌*◌}
use lib.ListN.{replicate}
use Rattle.refusals.specs.Refusals.{answer}
use Rattle.adjacency.specs.Tables.{Table, table}
use Rattle.grid.specs.Grid.{Grid, grid, cells}
use Rattle.starting.specs.Propagate.{Outcome, outcome, propagate_refusal, propagate_of}
use Rattle.consistency.proofs.Cases.{checker}

-- ---- worked cases

-- a grid, the starting domains, the domains that are left and whether they are contradicted
record Case : Type 0 where
  on : Grid
  start : List ℕ
  left : List ℕ
  contradicted : Bool

abbrev case : Grid → List ℕ → List ℕ → Bool → Case
case on start left contradicted = record { on = on; start = start; left = left; contradicted = contradicted }

cases : List Case
cases =
    case (grid 2 1 0) (1 ∷ 3 ∷ []) (1 ∷ 2 ∷ []) false  -- A
    ∷ case (grid 3 1 0) (1 ∷ 3 ∷ 3 ∷ []) (1 ∷ 2 ∷ 1 ∷ []) false  -- B
    ∷ case (grid 3 1 1) (1 ∷ 3 ∷ 3 ∷ []) (0 ∷ 0 ∷ 0 ∷ []) true  -- C
    ∷ case (grid 1 1 1) (3 ∷ []) (3 ∷ []) false  -- D: it stays, though no assignment exists
    ∷ case (grid 1 1 1) (1 ∷ []) (0 ∷ []) true  -- E
    ∷ case (grid 1 1 0) (1 ∷ []) (1 ∷ []) false  -- F
    ∷ case (grid 2 2 0) (3 ∷ 3 ∷ 3 ∷ 0 ∷ []) (0 ∷ 0 ∷ 0 ∷ 0 ∷ []) true  -- a cell is empty at the start
    ∷ case (grid 2 2 3) (3 ∷ 3 ∷ 2 ∷ 3 ∷ []) (1 ∷ 2 ∷ 2 ∷ 1 ∷ []) false  -- both sides wrap, of length 2
    ∷ []

-- Checker's outcome with work memory that is full of v
with : ℕ → Grid → List ℕ → Outcome
unfolding propagate_of
with v g D = propagate_of checker g D (replicate (cells g * 8) v) (replicate (cells g * 2) v)

-- whatever work memory held, it ends as zero, and the domains as the case says
abbrev Hold : List Case → Type 0
unfolding with
Hold [] = Unit {0}
Hold (k ∷ ks) = (with 9 k.on k.start ≡ outcome (answer k.contradicted) k.left (replicate (cells k.on * 8) 0) (replicate (cells k.on * 2) 0)) × Hold ks

cases-hold : Hold cases
unfolding Hold cases
cases-hold = (refl, (refl, (refl, (refl, (refl, (refl, (refl, (refl, tt))))))))

-- ---- both sides of its limits

-- Checker at 2 by 1, with lengths of its work memory
at : List ℕ → ℕ → ℕ → ℕ
unfolding propagate_refusal
at D counts pending = propagate_refusal checker (grid 2 1 0) D counts pending

length_limits :
    (at (3 ∷ 3 ∷ []) 16 4 ≡ 0)
    × (at (3 ∷ []) 16 4 ≡ 5)
    × (at (3 ∷ 3 ∷ 3 ∷ []) 16 4 ≡ 5)
    × (at (3 ∷ 3 ∷ []) 15 4 ≡ 5)
    × (at (3 ∷ 3 ∷ []) 17 4 ≡ 5)
    × (at (3 ∷ 3 ∷ []) 16 3 ≡ 5)
    × (at (3 ∷ 3 ∷ []) 16 5 ≡ 5)
unfolding at
length_limits = (refl, refl, refl, refl, refl, refl, refl)

domain_limits : (at (3 ∷ 0 ∷ []) 16 4 ≡ 0) × (at (4 ∷ 3 ∷ []) 16 4 ≡ 9) × (at (3 ∷ 4 ∷ []) 16 4 ≡ 9)
unfolding at
domain_limits = (refl, refl, refl)

size_limits :
    (propagate_refusal checker (grid 32 32 3) (replicate 1024 3) 8192 2048 ≡ 0)
    × (propagate_refusal checker (grid 32 33 3) (replicate 1056 3) 8448 2112 ≡ 1)
unfolding propagate_refusal
size_limits = (refl, refl)

-- ---- the order 3, 1, 2, 5, 6, 7, 9: one fault less in each line

-- a list that is empty, and lists that disagree
abbrev gap : Table
gap = table 1 (0 ∷ 1 ∷ 1 ∷ 2 ∷ 3 ∷ []) (0 ∷ 0 ∷ 0 ∷ [])

abbrev torn : Table
torn = table 2 (0 ∷ 1 ∷ 2 ∷ 3 ∷ 4 ∷ 5 ∷ 6 ∷ 7 ∷ 8 ∷ []) (0 ∷ 1 ∷ 1 ∷ 1 ∷ 0 ∷ 0 ∷ 0 ∷ 0 ∷ [])

refusal-order :
    (propagate_refusal (table 65 [] (0 ∷ [])) (grid 0 1 4) (4 ∷ []) 0 0 ≡ 3)
    × (propagate_refusal (table 64 [] (0 ∷ [])) (grid 0 1 4) (4 ∷ []) 0 0 ≡ 1)
    × (propagate_refusal (table 64 [] (0 ∷ [])) (grid 1 1 4) (4 ∷ []) 0 0 ≡ 2)
    × (propagate_refusal (table 64 [] (0 ∷ [])) (grid 1 1 3) (4 ∷ []) 0 0 ≡ 5)
    × (propagate_refusal gap (grid 1 1 3) (4 ∷ []) 4 1 ≡ 6)
    × (propagate_refusal torn (grid 1 1 3) (4 ∷ []) 8 2 ≡ 7)
    × (propagate_refusal checker (grid 1 1 3) (4 ∷ []) 8 2 ≡ 9)
    × (propagate_refusal checker (grid 1 1 3) (3 ∷ []) 8 2 ≡ 0)
unfolding propagate_refusal
refusal-order = (refl, refl, refl, refl, refl, refl, refl, refl)
