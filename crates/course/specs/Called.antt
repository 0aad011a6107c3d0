-- A run as it is called: its refusals, its answer, and what every lent slice holds after it. Follows docs/RULES.md, "Run" and "Refusals".
-- Assumes nothing.
use Rattle.std.specs.Prelude.{Bool, ◌||◌, not, List, ◌∷◌, ◌++◌, [], ◌≡◌, ℕ, zero, suc, ◌+◌, ◌*◌, ltb, eqb, Float, length, replicate}
use Rattle.std.specs.Float.{binary32}
use Rattle.std.specs.Float.Ieee.{of_bits}
use Rattle.refusals.specs.declared.Refusal.TheVariants.{BadSize, BadWrap, BadCount, BadWeights, BadLength, BadList, Disagree}
use Rattle.refusals.specs.Refusals.{Test, ◌gives◌, first_of, Asked, refused, answer}
use Rattle.adjacency.specs.Checks.{bad_count, offsets_misfit, weights_misfit, over_weight, bad_list, disagree}
use Rattle.grid.specs.Grid.{cells, bad_size, bad_wrap}
use Rattle.notes.specs.Blocks.{blocks}
use Rattle.forbids.specs.declared.Forbid.{Forbid}
use Rattle.forbids.specs.Forbids.{forbid_tests, forbids_of, records_in}
use Rattle.course.specs.Run.{Given, Ended, run_of}

-- the lent slices that a run writes
pub record Memory : Type 0 where
  pub domains : List ℕ
  pub counts : List ℕ
  pub pending : List ℕ
  pub floats : List Float
  pub marks : List ℕ

abbrev pub memory : List ℕ → List ℕ → List ℕ → List Float → List ℕ → Memory
memory domains counts pending floats marks = record { domains = domains; counts = counts; pending = pending; floats = floats; marks = marks }

-- how long those are
pub record Room : Type 0 where
  pub domains : ℕ
  pub counts : ℕ
  pub pending : ℕ
  pub floats : ℕ
  pub marks : ℕ

abbrev pub room : ℕ → ℕ → ℕ → ℕ → ℕ → Room
room domains counts pending floats marks = record { domains = domains; counts = counts; pending = pending; floats = floats; marks = marks }

abbrev pub room_of : Memory → Room
room_of m = room (length m.domains) (length m.counts) (length m.pending) (length m.floats) (length m.marks)

-- every lent slice that is written has its length, of P patterns at n cells
pub record Measured (P n : ℕ) (m : Memory) : Type 0 where
  pub domains : length m.domains ≡ n
  pub counts : length m.counts ≡ n * P * 4
  pub pending : length m.pending ≡ n * P
  pub floats : length m.floats ≡ 2 * n
  pub marks : length m.marks ≡ 2 * n + blocks n

-- ---- refusals

-- of n cells and P patterns: a word for each cell, 4P counts and P pending removals for each, two floats and two marks for each,
-- and a mark for each block of 32 cells
unfoldable pub bad_memory : ℕ → ℕ → Room → Bool
bad_memory P n r =
    not (eqb r.domains n) || not (eqb r.counts (n * P * 4)) || not (eqb r.pending (n * P)) || not (eqb r.floats (2 * n)) || not (eqb r.marks (2 * n + blocks n))

-- a lent slice has not its published length, or there are over 4,096 forbids
unfoldable pub bad_lengths : ℕ → ℕ → List ℕ → List ℕ → List ℕ → ℕ → Room → Bool
unfolding weights_misfit offsets_misfit bad_memory
bad_lengths P n weights offsets noise forbids r =
    weights_misfit P weights || offsets_misfit P offsets || not (eqb (length noise) n) || bad_memory P n r || ltb 4096 forbids

-- 3, 1, 2, 5, 4, 6, 7
unfoldable pub base_tests : Given → ℕ → Room → List Test
unfolding bad_count bad_size bad_wrap bad_lengths over_weight bad_list disagree
base_tests i forbids r =
    (bad_count i.table.count gives BadCount)
    ∷ (bad_size i.grid.width i.grid.height gives BadSize)
    ∷ (bad_wrap i.grid.mode gives BadWrap)
    ∷ (bad_lengths i.table.count (cells i.grid) i.weights i.table.offsets i.noise forbids r gives BadLength)
    ∷ (over_weight i.weights gives BadWeights)
    ∷ (bad_list i.table gives BadList)
    ∷ (disagree i.table gives Disagree)
    ∷ []

-- the forbids last; `lent` is how many there are
unfoldable pub tests_of : ℕ → Given → List Forbid → Memory → List Test
unfolding base_tests forbid_tests
tests_of lent i fs m = base_tests i lent (room_of m) ++ forbid_tests i.table i.grid fs

abbrev pub run_tests : Given → List Forbid → Memory → List Test
run_tests i fs m = tests_of (length fs) i fs m

-- ---- the outcome

-- an end and how many words were used
pub record End : Type 0 where
  pub end : ℕ
  pub used : ℕ

-- what a call comes to: what is told, and what the lent slices hold
pub record Outcome : Type 0 where
  pub told : Asked End
  pub memory : Memory

abbrev pub outcome : Asked End → Memory → Outcome
outcome told memory = record { told = told; memory = memory }

-- these domains, and work memory that is zero
unfoldable pub cleared : List ℕ → Room → Memory
cleared domains r =
    memory domains (replicate r.counts 0) (replicate r.pending 0) (replicate r.floats (of_bits binary32 0)) (replicate r.marks 0)

-- the answer of a run, its domains, and work memory that is zero
unfoldable pub finished : Ended → Memory → Outcome
unfolding cleared
finished e m = outcome (answer (record { end = e.end; used = e.used })) (cleared e.domains (room_of m))

-- refused, all is as it was
unfoldable pub outcome_at : ℕ → Given → List Forbid → List ℕ → Memory → Outcome
unfolding finished run_of
outcome_at zero i fs words m = finished (run_of i fs words) m
outcome_at (suc n) i fs words m = outcome (refused (suc n)) m

-- what a call comes to, of which `lent` says how many forbids there are
unfoldable pub called_of : ℕ → Given → List Forbid → List ℕ → Memory → Outcome
unfolding first_of outcome_at tests_of
called_of lent i fs words m = outcome_at (first_of (tests_of lent i fs m)) i fs words m

-- what a call of `run` comes to
abbrev pub called : Given → List Forbid → List ℕ → Memory → Outcome
called i fs words m = called_of (length fs) i fs words m

-- what it comes to where the forbids are lent as numbers
abbrev pub called_numbers : Given → List ℕ → List ℕ → Memory → Outcome
called_numbers i ns words m = called_of (records_in ns) i (forbids_of ns) words m
