-- The course of a run: the states that it reaches, by how many choices and with how many words used, what was asked to go until then, all its states
-- in order, and the state where it ends.
-- Follows docs/RULES.md, "Run". Assumes nothing.
use Rattle.std.specs.Prelude.{Bool, ◌≡◌, ℕ, zero, suc, ◌+◌, length, get_or, Option, None, Some}
use mathlib.Core.List.{List, ◌∷◌, ◌++◌, []}
use Rattle.adjacency.specs.Accepted.{Accepted}
use Rattle.adjacency.specs.Weights.{Weighed, weight_sum, mask}
use Rattle.grid.specs.Grid.{cells}
use Rattle.consistency.specs.Domains.{filled}
use Rattle.consistency.specs.Worklist.{Removal, State}
use Rattle.consistency.specs.Start.{others}
use Rattle.consistency.specs.Parts.{removed_all}
use Rattle.notes.specs.Beside.{Beside}
use Rattle.forbids.specs.declared.Forbid.{Forbid}
use Rattle.choice.specs.declared.inner.Sight.{Sight}
use Rattle.choice.specs.Observer.{valid, note_at}
use Rattle.choice.specs.Choice.{Draw, draw, taken}
use Rattle.forbids.specs.Forbids.{Placed}
use Rattle.course.specs.Run.{Given, begun, asked, laid_all, notes_of, sighted, Ended, Turn, turn}

-- what the refusals leave
pub record Lawful (i : Given) (fs : List Forbid) : Type 0 where
  pub accepted : Accepted i.table
  pub weighed : Weighed i.table.count i.weights
  pub placed : Placed i.table.count (cells i.grid) fs

-- full domains less what was asked to go
abbrev pub full_less : Given → List Removal → List ℕ
full_less i us = removed_all us (filled i.table.count (cells i.grid))

-- all that forbids ask to go
unfoldable pub wanted : ℕ → List Forbid → List Removal
unfolding asked
wanted P [] = []
wanted P (f ∷ fs) = asked P f ++ wanted P fs

-- all that a choice asks to go: every pattern of the cell but the one that it takes
unfoldable pub other_than : ℕ → ℕ → Option ℕ → List Removal
unfolding others
other_than P c None = []
other_than P c (Some p) = others P c p

-- of a draw at cell c
unfoldable pub drawn_off : Given → State Beside → ℕ → Option Draw → List Removal
unfolding other_than taken
drawn_off i s c None = []
drawn_off i s c (Some d) = other_than i.table.count c (taken i.weights (get_or s.domains c 0) d.number)

module _ (i : Given) (words : List ℕ) where
  -- of an observation
  unfoldable pub seen_off : ℕ → State Beside → Option Sight → List Removal
  unfolding drawn_off draw weight_sum
  seen_off used s None = []
  seen_off used s (Some v) = drawn_off i s v.cell (draw words used (weight_sum i.weights (get_or s.domains v.cell 0)))

  -- of the turn at a state
  unfoldable pub turned_off : ℕ → State Beside → List Removal
  unfolding seen_off sighted
  turned_off used s = seen_off used s (sighted i s)

module _ (i : Given) (fs : List Forbid) (words : List ℕ) where
  -- the run is at a state after the forbids and so many choices, with so many words used
  pub data Reached : ℕ → ℕ → State Beside → Type 0 where
    forbade : Reached 0 0 (laid_all i fs (begun i))
    chose : {k used more : ℕ} {s s' : State Beside} → Reached k used s → turn i words used s ≡ Turn.on more s' → Reached (suc k) more s'

  -- all that was asked to go until then: by the forbids, then by each choice
  unfoldable pub removals : {k used : ℕ} {s : State Beside} → Reached k used s → List Removal
  unfolding wanted turned_off
  removals forbade = wanted i.table.count fs
  removals (chose {used = used} {s = s} r e) = removals r ++ turned_off i words used s

  -- it ends with e: the turn at the last state is over
  pub record Final (e : Ended) : Type 0 where
    pub choices : ℕ
    pub state : State Beside
    pub reached : Reached choices e.used state
    pub over : turn i words e.used state ≡ Turn.over e

-- ---- all states in order: the start, one after each forbid, then one after each choice

module _ (i : Given) (fs : List Forbid) (words : List ℕ) where
  -- the run is at a state after so many of its forbids, or after all of them and so many choices
  pub data Visited : ℕ → State Beside → Type 0 where
    among : (gs hs : List Forbid) → gs ++ hs ≡ fs → Visited (length gs) (laid_all i gs (begun i))
    after : {k used : ℕ} {s : State Beside} → Reached i fs words k used s → Visited (length fs + k) s

-- the note that cell c has at the state s would count at the state s'
abbrev pub still_counts : Given → ℕ → State Beside → State Beside → Bool
still_counts i c s s' = valid (note_at (notes_of i s) c).count (get_or s'.domains c 0) (mask i.weights)

-- ---- the last state, computed

-- a state, and all that was asked to go until then
pub record Last : Type 0 where
  pub state : State Beside
  pub gone : List Removal

abbrev pub last : State Beside → List Removal → Last
last state gone = record { state = state; gone = gone }

-- turn by turn, as the run goes
unfoldable pub last_from : Given → List ℕ → ℕ → ℕ → Last → Last
unfolding turn turned_off
last_from i words zero used l = l
last_from i words (suc fuel) used l =
    elim (turn i words used l.state) [
      | Turn.over e ↦ l
      | Turn.on more t ↦ last_from i words fuel more (last t (l.gone ++ turned_off i words used l.state))
    ]

-- where a run ends
unfoldable pub last_of : Given → List Forbid → List ℕ → Last
unfolding last_from laid_all begun wanted
last_of i fs words = last_from i words (cells i.grid + 1) 0 (last (laid_all i fs (begun i)) (wanted i.table.count fs))
