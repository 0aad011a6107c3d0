-- Support counts, as the code lowers them: one, and those of the patterns of a list. Follows docs/RULES.md, "Propagation". Assumes nothing.
use Rattle.std.specs.Prelude.{Bool, cond, List, [], ◌∷◌, ℕ, ◌+◌, ◌-◌, ◌*◌, leb, eqb, get_or, set}

-- what one visit to a count comes to: whether it was the last support, and the counts after it
pub record Visit : Type 0 where
  pub last : Bool
  pub counts : List ℕ

abbrev pub visit : Bool → List ℕ → Visit
visit last counts = record { last = last; counts = counts }

-- one support is taken from the count at k, where it is not the last and not gone already
unfoldable pub visit_at : List ℕ → ℕ → Visit
visit_at counts k = visit (eqb (get_or counts k 0) 1) (cond (leb 2 (get_or counts k 0)) (set counts k (get_or counts k 0 - 1)) counts)

-- what visits to the patterns of a list come to: what is left of the list, and the counts after them
pub record Visits : Type 0 where
  pub left : List ℕ
  pub counts : List ℕ

abbrev pub visits : List ℕ → List ℕ → Visits
visits left counts = record { left = left; counts = counts }

-- one support from direction d is taken from each pattern of a list, up to the first whose last it is; `base` is the place of the cell's pattern 0
unfoldable pub until_loss : ℕ → ℕ → List ℕ → List ℕ → Visits
unfolding visit_at
until_loss base d [] counts = visits [] counts
until_loss base d (q ∷ qs) counts =
    let t = visit_at counts ((base + q) * 4 + d) in
    cond t.last (visits (q ∷ qs) t.counts) (until_loss base d qs t.counts)
