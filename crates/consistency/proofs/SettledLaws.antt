-- What a settled propagation says: which subset is left, that there is one outcome only, and that less never leaves more. A contradiction counts
-- as every cell empty. Follows docs/RULES.md, "Propagation". Assumes nothing.
use mathlib.Core.Bool.{Bool, true, false}
use mathlib.Core.List.{List}
use mathlib.Core.Path.{◌≡◌, refl, sym, ap, subst, ◌∙◌}
use Prim.Native.Nat.{ℕ}
use lib.ListN.{replicate}
use Rattle.adjacency.specs.Tables.{Table}
use Rattle.grid.specs.Grid.{Grid}
use Rattle.consistency.specs.Domains.{Sub, emptied, settled_as}
use Rattle.consistency.specs.Consistent.{Greatest}
use Rattle.consistency.specs.Worklist.{State, state}
use Rattle.consistency.specs.Safe.{Safe}
use Rattle.consistency.proofs.DomainLaws.{emptied-sub, settled-empty, settled-below, sub-settled}
use Rattle.consistency.proofs.GreatestLaws.{greatest-one, greatest-mono}
use Rattle.consistency.proofs.Settled.{Ready, Settled}

module _ (t : Table) (g : Grid) where
  module _ {X : Type 0} (D : List ℕ) (s : State X) (S : Settled t g D s) where
    -- where it is not contradicted, the greatest consistent subset is left
    pub settled-greatest : s.empty ≡ false → Greatest t g D s.domains
    settled-greatest e = subst (λ (E : List ℕ). Greatest t g D E) (sym (S.left e)) S.greatest

    -- it is contradicted exactly where the greatest consistent subset has an empty cell
    pub settled_contradiction : (G : List ℕ) → Greatest t g D G → s.empty ≡ emptied G
    settled_contradiction G a = S.contradiction ∙ ap emptied (greatest-one t g D S.rest G S.greatest a)

    -- what is written of it is what is written of that subset
    pub settled-written : (G : List ℕ) → Greatest t g D G → settled_as s.domains ≡ settled_as G
    settled-written G a = go s.empty refl
      where
        go : (b : Bool) → s.empty ≡ b → settled_as s.domains ≡ settled_as G
        go true e =
            settled-empty s.domains (sym S.safe.told ∙ e)
            ∙ ap (λ (k : ℕ). replicate k 0) (S.safe.fit.sized ∙ sym a.fit.sized)
            ∙ sym (settled-empty G (sym (settled_contradiction G a) ∙ e))
        go false e = ap settled_as (greatest-one t g D s.domains G (settled-greatest e) a)

    -- it is a subset of what there was
    pub settled-sub : Sub (settled_as s.domains) D
    settled-sub =
        rw (settled-written S.rest S.greatest) (λ c p h. S.greatest.below c p (settled-below S.rest c p h))

  module _ {X Y : Type 0} (D E : List ℕ) (s : State X) (r : State Y) (S : Settled t g D s) (R : Settled t g E r) where
    -- there is one outcome only, however the propagation came about and whatever is kept beside the domains
    pub settled-one : D ≡ E → (settled_as s.domains ≡ settled_as r.domains) × (s.empty ≡ r.empty)
    settled-one e =
        let a = subst (λ (F : List ℕ). Greatest t g F S.rest) e S.greatest in (
          settled-written D s S S.rest S.greatest ∙ sym (settled-written E r R S.rest a),
          S.contradiction ∙ sym (settled_contradiction E r R S.rest a),
        )

    -- less never leaves a cell a new pattern, and never lifts a contradiction
    pub settled-less : Sub D E → Sub (settled_as s.domains) (settled_as r.domains) × (r.empty ≡ true → s.empty ≡ true)
    settled-less h =
        let sub = greatest-mono t g D E S.rest R.rest h S.greatest R.greatest in (
          rw (settled-written D s S S.rest S.greatest, settled-written E r R R.rest R.greatest)
              (sub-settled S.greatest.fit R.greatest.fit sub),
          λ e. S.contradiction ∙ emptied-sub S.greatest.fit R.greatest.fit sub (sym R.contradiction ∙ e),
        )

-- ---- what is kept beside the domains may change at will

module _ {X Y : Type 0} (s : State X) (y : Y) where
  pub safe-beside : (P n M : ℕ) → Safe P n M s → Safe P n M (state s.counts s.domains s.pending s.empty y)
  safe-beside P n M S = record { sized = S.sized; fit = S.fit; inside = S.inside; room = S.room; dead = S.dead; told = S.told }

  module _ (t : Table) (g : Grid) where
    pub ready-beside : Ready t g s → Ready t g (state s.counts s.domains s.pending s.empty y)
    ready-beside R = record { safe = safe-beside _ _ _ R.safe; counted = R.counted }

    pub settled-beside : (D : List ℕ) → Settled t g D s → Settled t g D (state s.counts s.domains s.pending s.empty y)
    settled-beside D S =
        record {
          rest = S.rest;
          greatest = S.greatest;
          contradiction = S.contradiction;
          left = S.left;
          ended = S.ended;
          ready = λ e. ready-beside (S.ready e);
          safe = safe-beside _ _ _ S.safe;
        }
