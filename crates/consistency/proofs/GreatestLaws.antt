-- What follows from `Greatest` alone: there is one only, it grows with the domains, consistent domains are their own, and removals may wait until
-- after it or go before. Follows docs/RULES.md, "Propagation". Assumes nothing.
use mathlib.Core.List.{List}
use mathlib.Core.Path.{◌≡◌}
use Prim.Native.Nat.{ℕ}
use Rattle.adjacency.specs.Tables.{Table}
use Rattle.grid.specs.Grid.{Grid, cells}
use Rattle.consistency.specs.Domains.{Fit, Sub}
use Rattle.consistency.specs.Consistent.{Consistent, Greatest}
use Rattle.consistency.specs.Worklist.{Removal}
use Rattle.consistency.specs.Parts.{removed_all}
use Rattle.consistency.proofs.DomainLaws.{sub_antisym}
use Rattle.consistency.proofs.RemovedAllLaws.{possible-removed_all}

module _ (t : Table) (g : Grid) where
  -- a smaller start leaves a subset
  pub greatest-mono : (D E G H : List ℕ) → Sub D E → Greatest t g D G → Greatest t g E H → Sub G H
  greatest-mono D E G H h a b = b.above G a.fit a.consistent (λ c p z. h c p (a.below c p z))

  -- there is one greatest consistent subset only
  pub greatest-one : (D G H : List ℕ) → Greatest t g D G → Greatest t g D H → G ≡ H
  greatest-one D G H a b = sub_antisym a.fit b.fit (greatest-mono D D G H (λ c p z. z) a b) (greatest-mono D D H G (λ c p z. z) b a)

  -- consistent domains are their own
  pub greatest-self : (D : List ℕ) → Fit t.count (cells g) D → Consistent t g D → Greatest t g D D
  greatest-self D F C = record { fit = F; consistent = C; below = λ c p z. z; above = λ H i K h. h }

  -- removals after a propagation lead to where they lead before it
  pub greatest-removed_all : (us : List Removal) (D G H : List ℕ) → Greatest t g D G → Greatest t g (removed_all us G) H → Greatest t g (removed_all us D) H
  greatest-removed_all us D G H a b =
      record {
        fit = b.fit;
        consistent = b.consistent;
        below = λ c p z. let (k, l) = (possible-removed_all us G c p).0 (b.below c p z) in (possible-removed_all us D c p).1 (k, a.below c p l);
        above = λ E F C h.
            b.above E F C
            (λ c p z.
            (possible-removed_all us G c p).1
            (((possible-removed_all us D c p).0 (h c p z)).0, a.above E F C (λ m r y. ((possible-removed_all us D m r).0 (h m r y)).1) c p z));
      }
