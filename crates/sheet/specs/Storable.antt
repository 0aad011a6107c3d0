-- What can be stored: what the refusals leave; and slices that it can be read into. Assumes nothing.
use Rattle.std.specs.Prelude.{List, ◌≡◌, ℕ, ◌+◌, ◌*◌, ◌≤◌, length}
use Rattle.adjacency.specs.Tables.{Table}
use Rattle.grid.specs.Grid.{Grid, cells}
use Rattle.layout.specs.Sheet.{Sheet}
use Rattle.layout.specs.Tables.{joined}
use Rattle.layout.specs.Lending.{Lent, Fitting}
use Rattle.forbids.specs.Forbids.{forbids_of, Placed}

pub record Storable (t : Table) (weights : List ℕ) (g : Grid) (forbids : List ℕ) : Type 0 where
  pub fitting : Fitting t weights g forbids
  pub placed : Placed t.count (cells g) (forbids_of forbids)

-- slices of the published lengths: a weight for each pattern, 4P + 1 offsets, and room for the ids and the forbids
pub record Lendable (s : Sheet) (l : Lent) : Type 0 where
  pub weights : length l.weights ≡ length s.weights
  pub offsets : length l.offsets ≡ 4 * length s.weights + 1
  pub ids : length (joined s.lists) ≤ length l.ids
  pub forbids : length s.forbids ≤ length l.forbids
