-- Removals asked for in parts: each part is propagated before the next one, until a cell is empty. Follows docs/RULES.md, "Propagation".
-- Assumes nothing.
use Rattle.std.specs.Prelude.{cond, List, [], ◌∷◌, ◌↔◌, ◌≡◌, ℕ}
use Rattle.words.specs.Words.{without}
use Rattle.adjacency.specs.Tables.{Table}
use Rattle.grid.specs.Grid.{Grid}
use Rattle.consistency.specs.Domains.{removed}
use Rattle.consistency.specs.Worklist.{Removal, State, forbids, propagated}

-- the domains without each of the removals
unfoldable pub removed_all : List Removal → List ℕ → List ℕ
unfolding without
removed_all [] D = D
removed_all (u ∷ us) D = removed_all us (removed D u.cell u.pattern)

-- pattern p at cell c is none of the removals
abbrev pub Spared : List Removal → ℕ → ℕ → Type 0
Spared [] c p = Unit {0}
Spared (u ∷ us) c p = (c ≡ u.cell → p ≡ u.pattern → ⊥) × Spared us c p

-- the same removals, in whatever order and however often
abbrev pub Alike : List Removal → List Removal → Type 0
Alike us vs = (c p : ℕ) → Spared us c p ↔ Spared vs c p

-- one part after another; what is kept beside the domains may differ between removals that are asked for and those that follow
unfoldable pub in_parts : (t : Table) (g : Grid) {X : Type 0} (asked following : Removal → List ℕ → X → X) → List (List Removal) → State X → State X
unfolding propagated forbids
in_parts t g asked following [] s = s
in_parts t g asked following (us ∷ parts) s =
    cond s.empty s (in_parts t g asked following parts (propagated t g following (forbids t.count asked us s)))
