-- Starting domains that are given: what the code needs to withdraw what they lack, and the state that it then has. Follows docs/RULES.md, "Propagation".
-- Assumes nothing.
use Rattle.std.specs.Prelude.{List, ◌≡◌, ℕ, suc, ◌*◌, ◌≤◌, ◌<◌, length}
use Rattle.adjacency.specs.Tables.{Table}
use Rattle.consistency.specs.Domains.{Fit, emptied}
use Rattle.consistency.specs.Worklist.{State, state}
use Rattle.consistency.specs.Withdrawn.{start_work}

-- domains of P patterns, and work memory for them
pub record Starting (P : ℕ) (domains counts pending : List ℕ) : Type 0 where
  pub some : 1 ≤ P
  pub patterns : P ≤ 64
  pub one : 1 ≤ length domains
  pub cells : length domains ≤ 1024
  pub fit : Fit P (length domains) domains
  pub counted : length counts ≡ length domains * P * 4
  pub tall : length pending ≡ length domains * P

-- few patterns and cells, and room for the support counts of a cell
pub record Spacious (P cell : ℕ) (counts : List ℕ) : Type 0 where
  pub some : 1 ≤ P
  pub patterns : P ≤ 64
  pub near : cell < 1024
  pub roomy : suc cell * P * 4 ≤ length counts

-- the state from which given domains are propagated
unfoldable pub given_state : Table → List ℕ → State (Unit {0})
unfolding start_work emptied
given_state t D = state (start_work t (length D) D).counts D (start_work t (length D) D).pending (emptied D) tt
