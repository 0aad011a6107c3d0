-- The work list in its order: what was removed last is worked off first, by direction 0, 1, 2, 3 and by the list's order; without a support from some direction a pattern goes.
-- What is kept beside the domains at a removal is a parameter, so that the theorem does not depend on it. Follows docs/RULES.md, "Propagation".
-- Assumes nothing.
use Rattle.std.specs.Prelude.{Bool, ◌||◌, get_or, set, Option, None, Some}
use Rattle.std.proofs.Math.Bool.{cond}
use mathlib.Core.List.{List, [], ◌∷◌}
use Prim.Native.Nat.{ℕ, zero, suc, ◌+◌, ◌*◌}
use Rattle.std.proofs.Math.Dec.{eqb}
use Rattle.words.specs.Words.{bit, without}
use Rattle.adjacency.specs.Tables.{Table, list_of}
use Rattle.grid.specs.Grid.{Grid, cells, neighbour}
use Rattle.consistency.specs.Domains.{possible, removed}

-- a pattern that goes from a cell
pub record Removal : Type 0 where
  pub cell : ℕ
  pub pattern : ℕ

-- pattern p goes from cell c
abbrev pub removal : ℕ → ℕ → Removal
removal c p = record { cell = c; pattern = p }

-- where the support count of pattern q at cell n from direction d stands among the counts
abbrev pub place : ℕ → ℕ → ℕ → ℕ → ℕ
place P n q d = (n * P + q) * 4 + d

-- the four counts from k on are cleared
abbrev pub four_cleared : List ℕ → ℕ → List ℕ
four_cleared counts k = set (set (set (set counts k 0) (k + 1) 0) (k + 2) 0) (k + 3) 0

-- the support counts, what is possible, the removals that are pending with the last one first, whether a cell was emptied,
-- and what else is kept at each removal
pub record State (X : Type 0) : Type 0 where
  pub counts : List ℕ
  pub domains : List ℕ
  pub pending : List Removal
  pub empty : Bool
  pub beside : X

-- a state from its parts
abbrev pub state : {X : Type 0} → List ℕ → List ℕ → List Removal → Bool → X → State X
state counts domains pending empty beside = record { counts = counts; domains = domains; pending = pending; empty = empty; beside = beside }

-- the state with `us` left of what is pending
abbrev pub popped : {X : Type 0} → List Removal → State X → State X
popped us s = state s.counts s.domains us s.empty s.beside

-- over the number P of patterns, and what a removal changes beside the domains
module _ (P : ℕ) {X : Type 0} (keep : Removal → List ℕ → X → X) where
  -- a pattern goes: its four supports are cleared, its bit is, and the removal is pending; an emptied cell is never overlooked
  unfoldable pub remove : Removal → State X → State X
  unfolding without
  remove u s =
      record {
        counts = four_cleared s.counts (place P u.cell u.pattern 0);
        domains = removed s.domains u.cell u.pattern;
        pending = u ∷ s.pending;
        empty = s.empty || eqb (without (get_or s.domains u.cell 0) u.pattern) 0;
        beside = keep u (removed s.domains u.cell u.pattern) s.beside;
      }

  -- one support from direction d is taken from pattern q at cell n, which has `count` of them: with the last one the pattern goes, and one that is gone has none
  unfoldable pub decrement_at : ℕ → ℕ → ℕ → ℕ → State X → State X
  unfolding remove
  decrement_at n d q zero s = s
  decrement_at n d q (suc zero) s = remove (removal n q) s
  decrement_at n d q (suc (suc count)) s = state (set s.counts (place P n q d) (suc count)) s.domains s.pending s.empty s.beside

  -- the same, of as many as it has
  unfoldable pub decrement : ℕ → ℕ → ℕ → State X → State X
  unfolding decrement_at
  decrement n d q s = decrement_at n d q (get_or s.counts (place P n q d) 0) s

  -- the same for each pattern of a list, in its order
  unfoldable pub decrements : ℕ → ℕ → List ℕ → State X → State X
  unfolding decrement
  decrements n d [] s = s
  decrements n d (q ∷ qs) s = decrements n d qs (decrement n d q s)

  -- what a removal takes from the neighbour in direction d, where there is one
  unfoldable pub toward : Option ℕ → ℕ → List ℕ → State X → State X
  unfolding decrements
  toward None d qs s = s
  toward (Some n) d qs s = decrements n d qs s

  -- a removal that is asked for, of a pattern whose bit is `b`: one that is gone is let be
  unfoldable pub forbid_at : ℕ → Removal → State X → State X
  unfolding remove
  forbid_at zero u s = s
  forbid_at (suc b) u s = remove u s

  -- the same, of the bit that it has
  unfoldable pub forbid : Removal → State X → State X
  unfolding forbid_at bit
  forbid u s = forbid_at (possible s.domains u.cell u.pattern) u s

  -- removals that are asked for, in order
  unfoldable pub forbids : List Removal → State X → State X
  unfolding forbid
  forbids [] s = s
  forbids (u ∷ us) s = forbids us (forbid u s)

-- over the table and the grid
module _ (t : Table) (g : Grid) {X : Type 0} (keep : Removal → List ℕ → X → X) where
  -- a removal's effect in direction d
  unfoldable pub spread_in : Removal → ℕ → State X → State X
  unfolding toward neighbour list_of
  spread_in u d s = toward t.count keep (neighbour g u.cell d) d (list_of t u.pattern d) s

  -- a removal's effect, directions 0 to 3
  unfoldable pub spread : Removal → State X → State X
  unfolding spread_in
  spread u s = spread_in u 3 (spread_in u 2 (spread_in u 1 (spread_in u 0 s)))

  -- pop and spread until nothing is pending or a cell is empty, `fuel` times at most
  unfoldable pub propagate : ℕ → State X → State X
  unfolding spread
  propagate zero s = s
  propagate (suc fuel) s =
      elim s.pending [
        | [] ↦ s
        | u ∷ us ↦ cond s.empty s (propagate fuel (spread u (popped us s)))
      ]

  -- cells times P pops suffice, for each removal is popped once
  unfoldable pub propagated : State X → State X
  unfolding propagate
  propagated s = propagate (cells g * t.count) s
