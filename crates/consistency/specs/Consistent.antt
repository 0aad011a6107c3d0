-- Consistent domains, and the greatest consistent subset of given ones. Follows docs/RULES.md, "Propagation".
-- Assumes nothing.
use Rattle.std.specs.Prelude.{List, ◌≡◌, ℕ, ◌<◌, Some}
use Rattle.adjacency.specs.Tables.{Table, InList}
use Rattle.grid.specs.Grid.{Grid, cells, neighbour}
use Rattle.consistency.specs.Domains.{possible, Fit, Sub}

-- wherever pattern p is possible at a cell c that has n for a neighbour in direction d, p's list for d has some q that is possible at n
abbrev pub Consistent : Table → Grid → List ℕ → Type 0
Consistent t g D =
    (c p d n : ℕ) → d < 4 → possible D c p ≡ 1 → neighbour g c d ≡ Some n → (q : ℕ) × InList t p d q × (possible D n q ≡ 1)

-- G is the greatest consistent subset of D: it is one, and every other is a subset of it
pub record Greatest (t : Table) (g : Grid) (D G : List ℕ) : Type 0 where
  pub fit : Fit t.count (cells g) G
  pub consistent : Consistent t g G
  pub below : Sub G D
  pub above : (H : List ℕ) → Fit t.count (cells g) H → Consistent t g H → Sub H D → Sub H G
