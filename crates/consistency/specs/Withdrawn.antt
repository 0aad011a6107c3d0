-- What starting domains lack goes at once: the domains lack it already, and the support counts and what is pending follow.
-- Follows docs/RULES.md, "Propagation". Assumes nothing.
use Rattle.std.specs.Prelude.{List, [], ◌∷◌, ◌≡◌, ℕ}
use Rattle.consistency.specs.Domains.{possible, removed}
use Rattle.adjacency.specs.Tables.{Table}
use Rattle.consistency.specs.Worklist.{Removal, State, place, four_cleared}
use Rattle.consistency.specs.Start.{start_counts, missing}

-- the support counts, and the removals that are pending with the last one first
pub record Work : Type 0 where
  pub counts : List ℕ
  pub pending : List Removal

abbrev pub work : List ℕ → List Removal → Work
work counts pending = record { counts = counts; pending = pending }

abbrev pub work_of : {X : Type 0} → State X → Work
work_of s = work s.counts s.pending

-- of P patterns, one goes that the domains lack already: its four supports are cleared, and the removal is pending
unfoldable pub withdraw : ℕ → Removal → Work → Work
withdraw P u m = work (four_cleared m.counts (place P u.cell u.pattern 0)) (u ∷ m.pending)

-- each in turn
unfoldable pub withdrawn : ℕ → List Removal → Work → Work
unfolding withdraw
withdrawn P [] m = m
withdrawn P (u ∷ us) m = withdrawn P us (withdraw P u m)

-- each of the removals, when its turn comes, is of a pattern that is possible
abbrev pub InTurn : List Removal → List ℕ → Type 0
InTurn [] D = Unit {0}
InTurn (u ∷ us) D = (possible D u.cell u.pattern ≡ 1) × InTurn us (removed D u.cell u.pattern)

-- the counts and what is pending, where a propagation of the domains D at n cells starts
unfoldable pub start_work : Table → ℕ → List ℕ → Work
unfolding withdrawn missing start_counts
start_work t n D = withdrawn t.count (missing t.count 0 D) (work (start_counts t n) [])
