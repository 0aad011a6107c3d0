-- What the steps of a run take and leave, from their parts. Follows docs/RULES.md, "Run".
-- Assumes nothing.
use Rattle.std.specs.Prelude.{false, cond, List, ◌≡◌, ℕ, ◌+◌, ◌*◌, ◌≤◌, eqb, Float, length, drop, replicate}
use Rattle.order.specs.Numbers.{Numbers}
use Rattle.notes.specs.Blocks.{blocks}
use Rattle.std.specs.declared.ops.ControlFlow.{ControlFlow}
use Rattle.std.specs.declared.ops.ControlFlow.TheVariants.{Continue, Break}
use Rattle.propagation.specs.declared.inner.propagator.Pile.{Pile}
use Rattle.forbids.specs.declared.Forbid.{Forbid}
use Rattle.consistency.specs.Worklist.{State}
use Rattle.notes.specs.Beside.{Beside}
use Rattle.choice.specs.Observer.{notes_in}
use Rattle.choice.specs.Cache.{Fresh}
use Rattle.course.specs.Run.{Given, begun, laid_all, Ended, ended, Turn}
use Rattle.course.specs.Course.{Lawful}
use Rattle.course.specs.Called.{memory, Measured}
use Rattle.collapse.specs.declared.Ending.{Ending}
use Rattle.collapse.specs.declared.Ending.TheVariants.{Contradiction}
use Rattle.collapse.specs.declared.Stop.{Stop}
use Rattle.collapse.specs.Endings.{end_number}

-- what the start of a run takes: a cell or more, and those lengths of what it writes, whatever is pending
pub record Opened (P n : ℕ) (domains counts : List ℕ) (floats : List Float) (marks : List ℕ) : Type 0 where
  pub some : 1 ≤ n
  pub pending : List ℕ
  pub measured : Measured P n (memory domains counts pending floats marks)

-- nothing is pending, and no cell was emptied
abbrev pub idle : Pile
idle = record { top = 0; empty = false }

-- what a turn of the code comes to, with the state that the slices and a pile stand for
abbrev pub turn_of : ControlFlow Ending Pile → ℕ → (Pile → State Beside) → Turn
turn_of (Break end) used state = Turn.over (ended (end_number end) used (state idle).domains)
turn_of (Continue pile) used state = Turn.on (used + 1) (state pile)

-- where the turns stand after it: at its end, or, with one more word used, at a contradiction or going on
abbrev pub stop_of : ControlFlow Ending Pile → ℕ → ControlFlow Stop ℕ
stop_of (Break end) used = Break (record { end = end; used = used })
stop_of (Continue pile) used = cond pile.empty (Break (record { end = Contradiction; used = used + 1 })) (Continue (used + 1))

-- over the noise words and the word of the weighted patterns
module _ (noise : List ℕ) (mask : ℕ) where
  -- what the marks of blocks say of the cells is so, or they say nothing
  abbrev pub Found : List ℕ → List Float → List ℕ → Type 0
  Found D floats marks = Fresh (notes_in (length D) noise D floats marks mask) (drop (2 * length D) marks)

  -- what the observer needs of the slices
  pub record Sightly (D : List ℕ) (floats : List Float) (marks : List ℕ) : Type 0 where
    pub marked : length marks ≡ 2 * length D + blocks (length D)
    pub numbers : Numbers (drop (length D) floats)
    pub found : Found D floats marks

-- the state is where some forbids lead
pub record Laid (i : Given) (s : State Beside) : Type 0 where
  pub forbids : List Forbid
  pub lawful : Lawful i forbids
  pub is : s ≡ laid_all i forbids (begun i)

-- what the run comes to where the turns stop over the domains D, which a contradiction writes as zero
unfoldable pub ended_as : Stop → List ℕ → Ended
ended_as stop D = ended (end_number stop.end) stop.used (cond (eqb (end_number stop.end) 3) (replicate (length D) 0) D)
