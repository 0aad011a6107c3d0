-- Where a propagation starts: all patterns possible, with as many supports as the lists give; starting domains are full ones less what they lack.
-- Follows docs/RULES.md, "Propagation". Assumes nothing.
use Rattle.std.specs.Prelude.{Bool, false, cond, List, [], ◌∷◌, ◌++◌, ℕ, zero, suc, ◌*◌, ◌/◌, ◌%◌, eqb, length}
use Rattle.words.specs.Words.{has, full}
use Rattle.directions.specs.Directions.{opposite}
use Rattle.adjacency.specs.Tables.{Table, list_of}
use Rattle.grid.specs.Grid.{Grid, cells}
use Rattle.consistency.specs.Domains.{filled}
use Rattle.consistency.specs.Worklist.{Removal, removal, State, state, forbids, propagated}

-- f i, f (i + 1), .. , n of them
unfoldable pub tabulated : ℕ → ℕ → (ℕ → ℕ) → List ℕ
tabulated i zero f = []
tabulated i (suc n) f = f i ∷ tabulated (suc i) n f

-- with all patterns possible, pattern q has from direction d as many supports as its list for the opposite is long
unfoldable pub start_counts : Table → ℕ → List ℕ
unfolding tabulated list_of opposite
start_counts t n = tabulated 0 (n * t.count * 4) (λ i. length (list_of t (i / 4 % t.count) (opposite (i % 4))))

-- all full, nothing pending
unfoldable pub start : (t : Table) (g : Grid) {X : Type 0} → X → State X
unfolding start_counts full
start t g x = state (start_counts t (cells g)) (filled t.count (cells g)) [] false x

-- the patterns that fail a test, of the n from i on, ascending, as removals at cell c
unfoldable pub failing : (ℕ → Bool) → ℕ → ℕ → ℕ → List Removal
failing test zero i c = []
failing test (suc n) i c = cond (test i) (failing test n (suc i) c) (removal c i ∷ failing test n (suc i) c)

-- all of P patterns but p at cell c: what keeping only p there removes
unfoldable pub others : ℕ → ℕ → ℕ → List Removal
unfolding failing
others P c p = failing (λ i. eqb i p) P 0 c

-- the patterns of P that starting domains lack, the first word being cell c's
unfoldable pub missing : ℕ → ℕ → List ℕ → List Removal
unfolding failing has
missing P c [] = []
missing P c (w ∷ D) = failing (has w) P 0 c ++ missing P (suc c) D

-- all full, then the removals, then propagated
unfoldable pub reduced : (t : Table) (g : Grid) {X : Type 0} → (Removal → List ℕ → X → X) → X → List Removal → State X
unfolding propagated forbids start
reduced t g keep x us = propagated t g keep (forbids t.count keep us (start t g x))
