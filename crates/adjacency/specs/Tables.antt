-- Pattern tables: which patterns may stand beside which. P patterns, 4P + 1 offsets, and the ids. Follows docs/RULES.md, "Tables".
-- Assumes nothing.
use Rattle.std.specs.Prelude.{List, ℕ, ◌+◌, ◌-◌, ◌*◌, T, get_or, take, drop}
use Rattle.loops.specs.Tests.{elem}

-- a table as it is lent, accepted or not
pub record Table : Type 0 where
  pub count : ℕ
  pub offsets : List ℕ
  pub ids : List ℕ

-- the table of a count, offsets and ids
abbrev pub table : ℕ → List ℕ → List ℕ → Table
table count offsets ids = record { count = count; offsets = offsets; ids = ids }

-- the entries of l from index a up to, not including, index e, as `&l[a..e]` has them
abbrev pub part : ℕ → ℕ → List ℕ → List ℕ
part a e l = take (e - a) (drop a l)

-- list k: the ids between two offsets
unfoldable pub list_at : Table → ℕ → List ℕ
list_at t k = part (get_or t.offsets k 0) (get_or t.offsets (k + 1) 0) t.ids

-- what p allows beside it in direction d: list 4p + d
unfoldable pub list_of : Table → ℕ → ℕ → List ℕ
unfolding list_at
list_of t p d = list_at t (4 * p + d)

-- p allows q beside it in direction d
abbrev pub InList : Table → ℕ → ℕ → ℕ → Type 0
InList t p d q = T (elem q (list_of t p d))
