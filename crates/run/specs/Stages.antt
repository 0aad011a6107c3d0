-- A call of `run` in stages, as the code goes through them: it is refused or begins, each forbid is laid, and it is concluded.
-- Follows docs/RULES.md, "Run" and "Refusals". Assumes nothing.
use Rattle.std.specs.Prelude.{Bool, cond, List, [], ◌∷◌, ◌≡◌, ℕ, zero, suc, ◌+◌, eqb, length, replicate, Result, Ok, Err}
use Rattle.refusals.specs.declared.Refusal.{Refusal}
use Rattle.refusals.specs.Refusals.{first_of, refused, number}
use Rattle.grid.specs.Grid.{cells, Sized}
use Rattle.consistency.specs.Worklist.{State}
use Rattle.notes.specs.Beside.{Beside, beside_in}
use Rattle.propagation.specs.Lent.{state_of}
use Rattle.forbids.specs.declared.Forbid.{Forbid}
use Rattle.course.specs.Run.{Given, begun, laid, ended, collapse}
use Rattle.course.specs.Called.{Memory, room_of, Measured, base_tests, Outcome, outcome, finished}
use Rattle.collapse.specs.Steps.{idle, Laid}

-- where a call stands: refused with this number and all as it was; contradicted, when nothing else counts; or at a state, with nothing pending
pub data Stage : Type 0 where
  refused_at : ℕ → Memory → Stage
  contradicted : Stage
  standing : State Beside → Stage

-- the state that the lent slices stand for while nothing is pending
abbrev pub state_in : ℕ → Memory → State Beside
state_in P m = state_of P m.domains m.counts m.pending idle (beside_in (length m.domains) m.floats m.marks)

-- the stage that the answer of the beginning and the lent slices stand for
unfoldable pub begun_as : ℕ → Result (Unit {0}) Refusal → Memory → Stage
unfolding number
begun_as P (Ok u) m = standing (state_in P m)
begun_as P (Err r) m = refused_at (number r) m

-- the same where a number tells the refusal
unfoldable pub begun_by : ℕ → Result (Unit {0}) ℕ → Memory → Stage
begun_by P (Ok u) m = standing (state_in P m)
begun_by P (Err n) m = refused_at n m

-- the stage after a forbid or some, by whether one emptied a cell
unfoldable pub stage_of : ℕ → Bool → Memory → Stage
stage_of P empty m = cond empty contradicted (standing (state_in P m))

-- what the slices must be while the run goes on: of the published lengths, and at the state after some forbids
pub record Standing (i : Given) (m : Memory) : Type 0 where
  pub sized : Sized i.grid
  pub heard : length i.noise ≡ cells i.grid
  pub measured : Measured i.table.count (cells i.grid) m
  pub laid : Laid i (state_in i.table.count m)

-- ---- the stages

-- without a refusal the run begins
unfoldable pub begin_at : ℕ → Given → Memory → Stage
unfolding begun
begin_at zero i m = standing (begun i)
begin_at (suc n) i m = refused_at (suc n) m

-- the number of the first refusal of a call with so many forbids, of which `bad` is that of the forbids
unfoldable pub first_bad : ℕ → ℕ → Given → Memory → ℕ
unfolding first_of base_tests
first_bad bad lent i m = let n = first_of (base_tests i lent (room_of m)) in cond (eqb n 0) bad n

unfoldable pub beginning : ℕ → ℕ → Given → Memory → Stage
unfolding begin_at first_bad
beginning bad lent i m = begin_at (first_bad bad lent i m) i m

-- a forbid is laid
unfoldable pub lay_at : Given → Forbid → State Beside → Stage
unfolding laid
lay_at i f s = cond (laid i f s).empty contradicted (standing (laid i f s))

unfoldable pub lay : Given → Forbid → Stage → Stage
unfolding lay_at
lay i f (refused_at n m) = refused_at n m
lay i f contradicted = contradicted
lay i f (standing s) = lay_at i f s

-- each in order
unfoldable pub lay_all : Given → List Forbid → Stage → Stage
unfolding lay
lay_all i [] x = x
lay_all i (f ∷ fs) x = lay_all i fs (lay i f x)

-- the turns of the run, its answer, and what it leaves in memory of these lengths
unfoldable pub concluding : Given → List ℕ → Stage → Memory → Outcome
unfolding finished collapse
concluding i words (refused_at n m) r = outcome (refused n) m
concluding i words contradicted r = finished (ended 3 0 (replicate (length r.domains) 0)) r
concluding i words (standing s) r = finished (collapse i words (cells i.grid + 1) 0 s) r
