-- What an accepted table is, for the layers above: its lists are not empty, ascending, below P, and agree both ways. Follows docs/RULES.md, "Tables".
-- Assumes nothing.
use Rattle.std.specs.Prelude.{◌≡◌, List, [], ◌∷◌, ℕ, ◌+◌, ◌*◌, ◌≤◌, ◌<◌, length, get_or}
use Rattle.directions.specs.Directions.{opposite}
use Rattle.adjacency.specs.Tables.{Table, list_of, InList}

-- every entry is below n
abbrev pub AllBelow : ℕ → List ℕ → Type 0
AllBelow n [] = Unit {0}
AllBelow n (x ∷ l) = (x < n) × AllBelow n l

-- every entry is above x
abbrev pub AllAbove : ℕ → List ℕ → Type 0
AllAbove x [] = Unit {0}
AllAbove x (y ∷ l) = (x < y) × AllAbove x l

-- every entry is above the entries before it
abbrev pub Ascends : List ℕ → Type 0
Ascends [] = Unit {0}
Ascends (x ∷ l) = AllAbove x l × Ascends l

-- the offsets name a part of the ids for each list: what reading a list needs
pub record Laid (t : Table) : Type 0 where
  pub long : length t.offsets ≡ 4 * t.count + 1
  pub rising : (k : ℕ) → k < 4 * t.count → get_or t.offsets k 0 ≤ get_or t.offsets (k + 1) 0
  pub ends : (k : ℕ) → k ≤ 4 * t.count → get_or t.offsets k 0 ≤ length t.ids

-- what refusal 6 leaves
pub record Listed (t : Table) : Type 0 where
  pub first : get_or t.offsets 0 0 ≡ 0
  pub last : get_or t.offsets (4 * t.count) 0 ≡ length t.ids
  pub laid : Laid t
  pub filled : (p d : ℕ) → p < t.count → d < 4 → 0 < length (list_of t p d)
  pub ascends : (p d : ℕ) → p < t.count → d < 4 → Ascends (list_of t p d)
  pub below : (p d : ℕ) → p < t.count → d < 4 → AllBelow t.count (list_of t p d)

-- what acceptance gives
pub record Accepted (t : Table) : Type 0 where
  pub some : 1 ≤ t.count
  pub few : t.count ≤ 64
  pub listed : Listed t
  pub agree : (p q d : ℕ) → p < t.count → d < 4 → InList t p d q → InList t q (opposite d) p
