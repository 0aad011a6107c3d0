-- A run, step by step: full domains, the forbids, then observe and choose until it ends; `run_of` is the whole of it.
-- Follows docs/RULES.md, "Run". Assumes nothing.
use Rattle.std.specs.Prelude.{Bool, List, [], ◌∷◌, ◌++◌, leb, eqb, Float, length, get_or, replicate, Option, None, Some}
use Rattle.std.proofs.Math.Bool.{cond}
use Prim.Native.Nat.{ℕ, zero, suc, ◌+◌}
use Rattle.std.specs.Float.{binary32}
use Rattle.std.specs.Float.Ieee.{of_bits}
use Rattle.loops.specs.Tests.{every}
use Rattle.words.specs.Words.{how_many}
use Rattle.adjacency.specs.Tables.{Table}
use Rattle.adjacency.specs.Weights.{whole_weight, weight_sum, mask}
use Rattle.grid.specs.Grid.{Grid, cells}
use Rattle.logarithms.specs.Entropy.{running, entropy}
use Rattle.consistency.specs.Worklist.{Removal, removal, State, forbids, propagated}
use Rattle.consistency.specs.Start.{start, others}
use Rattle.notes.specs.Beside.{Beside, beside, lessened, kept, unmarked}
use Rattle.forbids.specs.declared.Forbid.{Forbid}
use Rattle.choice.specs.declared.inner.Sight.{Sight}
use Rattle.choice.specs.Observer.{Notes, notes_in, observe, sight_of}
use Rattle.choice.specs.Choice.{Draw, draw, taken}

-- what a run is given, but for its forbids and its words
pub record Given : Type 0 where
  pub table : Table
  pub weights : List ℕ
  pub grid : Grid
  pub noise : List ℕ

abbrev pub given : Table → List ℕ → Grid → List ℕ → Given
given table weights grid noise = record { table = table; weights = weights; grid = grid; noise = noise }

-- ---- 1. the start

-- how many patterns have weight, where that is two or more: then each cell starts with a note
unfoldable pub first_count : List ℕ → ℕ
unfolding how_many mask
first_count weights = cond (leb 2 (how_many (length weights) (mask weights))) (how_many (length weights) (mask weights)) 0

-- the entropy that it starts with
unfoldable pub first_entropy : List ℕ → Float
unfolding first_count entropy whole_weight running
first_entropy weights = cond (eqb (first_count weights) 0) (of_bits binary32 0) (entropy (whole_weight weights) (running weights))

-- what is kept of n cells at the start
unfoldable pub first_beside : ℕ → List ℕ → Beside
unfolding running first_entropy first_count
first_beside n weights = beside (replicate n (running weights) ++ replicate n (first_entropy weights)) (replicate n (first_count weights) ++ replicate n 0)

-- all domains full
unfoldable pub begun : Given → State Beside
unfolding start first_beside
begun i = start i.table i.grid (first_beside (cells i.grid) i.weights)

-- ---- 2. the forbids

-- the patterns that are asked to go are removed, and that is propagated
unfoldable pub reduced_by : Given → List Removal → State Beside → State Beside
unfolding forbids lessened propagated kept unmarked
reduced_by i us s =
    let r = forbids i.table.count (lessened i.weights) us s in
    propagated i.table i.grid (kept i.weights i.noise (cells i.grid))
    (record { counts = r.counts; domains = r.domains; pending = r.pending; empty = r.empty; beside = unmarked (cells i.grid) r.beside })

-- what a forbid asks to go: its pattern, or all others
unfoldable pub asked : ℕ → Forbid → List Removal
unfolding others
asked P f = cond (eqb f.keep 0) (removal f.cell f.pattern ∷ []) (others P f.cell f.pattern)

-- a pattern that is to be kept and is gone leaves none: the others go, and the cell is empty
unfoldable pub laid : Given → Forbid → State Beside → State Beside
unfolding reduced_by asked
laid i f s = reduced_by i (asked i.table.count f) s

-- each in order; a contradiction ends it
unfoldable pub laid_all : Given → List Forbid → State Beside → State Beside
unfolding laid
laid_all i [] s = s
laid_all i (f ∷ fs) s = cond s.empty s (laid_all i fs (laid i f s))

-- ---- 3. and 4. observe and choose

-- what the observer reads of a state
unfoldable pub notes_of : Given → State Beside → Notes
unfolding mask
notes_of i s = notes_in (cells i.grid) i.noise s.domains s.beside.floats s.beside.marks (mask i.weights)

-- the cell to observe
unfoldable pub sighted : Given → State Beside → Option Sight
unfolding observe sight_of notes_of
sighted i s = sight_of (observe (notes_of i s))

-- what a run comes to: its end, the words used, and the domains
pub record Ended : Type 0 where
  pub end : ℕ
  pub used : ℕ
  pub domains : List ℕ

abbrev pub ended : ℕ → ℕ → List ℕ → Ended
ended end used domains = record { end = end; used = used; domains = domains }

-- every cell has one pattern
unfoldable pub decided : List ℕ → Bool
unfolding every how_many
decided domains = every (λ w. eqb (how_many 64 w) 1) domains

-- nothing to observe: Decided (0), or Undecided (1)
unfoldable pub still : ℕ → State Beside → Ended
unfolding decided
still used s = ended (cond (decided s.domains) 0 1) used s.domains

-- the pattern that the number takes at a cell stays, the others go
unfoldable pub chosen : Given → ℕ → Option ℕ → State Beside → State Beside
unfolding reduced_by others
chosen i c None s = s
chosen i c (Some p) s = reduced_by i (others i.table.count c p) s

-- what one turn comes to: the run is over, or it goes on with so many words used
pub data Turn : Type 0 where
  over : Ended → Turn
  on : ℕ → State Beside → Turn

-- a cell c is observed and a draw is made: without a word the run is Paused (2)
unfoldable pub drawn : Given → ℕ → State Beside → ℕ → Option Draw → Turn
unfolding chosen taken
drawn i used s c None = over (ended 2 used s.domains)
drawn i used s c (Some d) = on d.used (chosen i c (taken i.weights (get_or s.domains c 0) d.number) s)

-- over what is given and the words
module _ (i : Given) (words : List ℕ) where
  -- the observation, or nothing to observe
  unfoldable pub seen : ℕ → State Beside → Option Sight → Turn
  unfolding still drawn draw weight_sum
  seen used s None = over (still used s)
  seen used s (Some v) = drawn i used s v.cell (draw words used (weight_sum i.weights (get_or s.domains v.cell 0)))

  -- one turn; an empty cell is a Contradiction (3), and every domain is written as zero
  unfoldable pub turn : ℕ → State Beside → Turn
  unfolding seen sighted
  turn used s = cond s.empty (over (ended 3 used (replicate (length s.domains) 0))) (seen used s (sighted i s))

  -- turn by turn, `fuel` times at most
  unfoldable pub collapse : ℕ → ℕ → State Beside → Ended
  unfolding turn
  collapse zero used s = ended 2 used s.domains
  collapse (suc fuel) used s = elim (turn used s) [ over e ↦ e | on more t ↦ collapse fuel more t ]

-- the whole run: a choice decides a cell for good, so as many turns as cells and one to end suffice
unfoldable pub run_of : Given → List Forbid → List ℕ → Ended
unfolding collapse laid_all begun
run_of i fs words = collapse i words (cells i.grid + 1) 0 (laid_all i fs (begun i))
