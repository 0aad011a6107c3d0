-- What is lent to be read into or to be written, what it holds afterwards, and what code needs of it. Assumes nothing.
use Rattle.std.specs.Prelude.{List, ◌≡◌, ℕ, ◌+◌, ◌*◌, ◌/◌, ◌%◌, ◌≤◌, ◌<◌, length, get_or}
use Rattle.records.specs.Laying.{over}
use Rattle.adjacency.specs.Tables.{Table}
use Rattle.adjacency.specs.Weights.{Weighed}
use Rattle.adjacency.specs.Accepted.{Accepted}
use Rattle.grid.specs.Grid.{Grid, Sized}
use Rattle.layout.specs.Sheet.{Sheet}
use Rattle.layout.specs.Tables.{table_of}

-- ---- read

-- the lent slices that are read into
pub record Lent : Type 0 where
  pub weights : List ℕ
  pub offsets : List ℕ
  pub ids : List ℕ
  pub forbids : List ℕ

abbrev pub lent : List ℕ → List ℕ → List ℕ → List ℕ → Lent
lent weights offsets ids forbids = record { weights = weights; offsets = offsets; ids = ids; forbids = forbids }

-- the sheet at the front of the lent slices; what stands past its last entry stays
unfoldable pub filled : Sheet → Lent → Lent
unfolding table_of over
filled s m =
    lent (over s.weights m.weights) (over (table_of s).offsets m.offsets) (over (table_of s).ids m.ids) (over s.forbids m.forbids)

-- room for what a sheet says
pub record Roomy (s : Sheet) (m : Lent) : Type 0 where
  pub weights : length s.weights ≤ length m.weights
  pub offsets : length (table_of s).offsets ≤ length m.offsets
  pub ids : length (table_of s).ids ≤ length m.ids
  pub forbids : length s.forbids ≤ length m.forbids

-- ---- written

-- each number fits two bytes
abbrev pub Small : List ℕ → Type 0
Small l = (k : ℕ) → k < length l → get_or l k 0 < 65536

-- each forbid's cell and pattern do
abbrev pub Numbered : List ℕ → Type 0
Numbered forbids = (i : ℕ) → i < length forbids / 3 → (get_or forbids (3 * i) 0 < 65536) × (get_or forbids (3 * i + 1) 0 < 65536)

-- all of it fits its bytes
pub record Fitting (t : Table) (weights : List ℕ) (g : Grid) (forbids : List ℕ) : Type 0 where
  pub accepted : Accepted t
  pub weighed : Weighed t.count weights
  pub sized : Sized g
  pub threes : length forbids % 3 ≡ 0
  pub few : length forbids ≤ 12288
  pub numbered : Numbered forbids
