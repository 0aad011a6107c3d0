-- What the lent slices of a propagation stand for, and what they must be. Assumes nothing.
use Rattle.std.specs.Prelude.{◌≡◌, List, ◌∷◌, [], ℕ, zero, suc, ◌-◌, ◌*◌, ◌/◌, ◌%◌, ◌≤◌, length, get_or}
use Rattle.adjacency.specs.Tables.{Table}
use Rattle.adjacency.specs.Accepted.{Accepted}
use Rattle.grid.specs.Grid.{Grid, cells, Sized}
use Rattle.consistency.specs.Worklist.{Removal, removal, State}
use Rattle.consistency.specs.Safe.{Safe}
use Rattle.propagation.specs.declared.inner.propagator.Pile.{Pile}

-- the removals on a pile of height n, the last first; each is kept as cell times P plus pattern
unfoldable pub pending_of : ℕ → List ℕ → ℕ → List Removal
pending_of P l zero = []
pending_of P l (suc n) = removal (get_or l n 0 / P) (get_or l n 0 % P) ∷ pending_of P l n

-- the state that the lent slices, the pile and what is kept beside stand for
abbrev pub state_of : {X : Type 0} → ℕ → List ℕ → List ℕ → List ℕ → Pile → X → State X
state_of P domains counts pending pile x =
    record { counts = counts; domains = domains; pending = pending_of P pending pile.top; empty = pile.empty; beside = x }

-- the removal on top of a pile, and the pile without it
abbrev pub top_of : ℕ → List ℕ → Pile → Removal
top_of P pending pile = removal (get_or pending (pile.top - 1) 0 / P) (get_or pending (pile.top - 1) 0 % P)

abbrev pub below_top : Pile → Pile
below_top pile = record { top = pile.top - 1; empty = pile.empty }

-- the lent slices of a propagation of P patterns at n cells: a safe state, and a pile for every removal there can be
pub record Lent (P n : ℕ) (domains counts pending : List ℕ) (pile : Pile) : Type 0 where
  pub some : 1 ≤ P
  pub patterns : P ≤ 64
  pub cells : n ≤ 1024
  pub safe : Safe P n (n * P) (state_of P domains counts pending pile (tt {0}))
  pub tall : length pending ≡ n * P

-- the table and the grid that a propagation reads
pub record Ground (t : Table) (g : Grid) (n : ℕ) : Type 0 where
  pub accepted : Accepted t
  pub sized : Sized g
  pub all : n ≡ cells g
