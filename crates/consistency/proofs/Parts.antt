-- Removals in parts: each part propagated before the next, in any order, with repeats, and stopped at a contradiction, they end as all together.
-- A contradiction counts as every cell empty. Follows docs/RULES.md, "Propagation". Assumes nothing.
use mathlib.Core.Bool.{Bool, true, false, cond, true≢false}
use mathlib.Core.List.{List, [], ◌∷◌, flatten}
use mathlib.Core.Path.{◌≡◌, refl, sym, subst, ◌∙◌}
use Prim.Native.Nat.{ℕ}
use Rattle.adjacency.specs.Tables.{Table}
use Rattle.adjacency.specs.Accepted.{Accepted}
use Rattle.grid.specs.Grid.{Grid, cells}
use Rattle.consistency.specs.Domains.{Fit, settled_as}
use Rattle.consistency.specs.Consistent.{Greatest}
use Rattle.consistency.specs.Worklist.{Removal, State, forbids, propagated}
use Rattle.consistency.specs.Start.{start, reduced}
use Rattle.consistency.specs.Parts.{removed_all, Alike, in_parts}
use Rattle.consistency.specs.Safe.{Inside}
use Rattle.consistency.proofs.DomainLaws.{emptied-sub, fit-filled}
use Rattle.consistency.proofs.RemovalLaws.{inside-parts}
use Rattle.consistency.proofs.RemovedAllLaws.{fit-removed_all, removed_all-append, removed_all-alike, sub-removed_all, forbids-removed_all}
use Rattle.consistency.proofs.GreatestLaws.{greatest-mono, greatest-removed_all}
use Rattle.consistency.proofs.Settled.{Settled, settled}
use Rattle.consistency.proofs.SettledLaws.{settled-greatest, settled-one}
use Rattle.consistency.proofs.StartLaws.{start-settled, forbids-ready, reduced-settled}
use Rattle.consistency.proofs.Given.{greatest_exists}

module _ (t : Table) (g : Grid) (A : Accepted t) {X : Type 0} where
  -- a contradiction stays one, whatever else is removed
  pub settled-stays : (us : List Removal) (D : List ℕ) (s : State X) → Fit t.count (cells g) D → Settled t g D s → s.empty ≡ true
      → Settled t g (removed_all us D) s
  settled-stays us D s F S e =
      record {
        rest = G;
        greatest = a;
        contradiction =
            e
            ∙ sym (emptied-sub a.fit S.greatest.fit (greatest-mono t g (removed_all us D) D G S.rest (sub-removed_all us D) a S.greatest) (sym S.contradiction ∙ e));
        left = λ z. absurd (true≢false (sym e ∙ z));
        ended = λ z. absurd (true≢false (sym e ∙ z));
        ready = λ z. absurd (true≢false (sym e ∙ z));
        safe = S.safe;
      }
    where
      exists : (G : List ℕ) × Greatest t g (removed_all us D) G
      exists = greatest_exists t g A (removed_all us D) (fit-removed_all us F)

      G : List ℕ
      G = exists.0

      a : Greatest t g (removed_all us D) G
      a = exists.1

  -- more removals after a propagation, once they are propagated too, settle what all of them leave
  pub settled-after : (us : List Removal) (D : List ℕ) (s r : State X) → Settled t g D s → s.empty ≡ false → Settled t g (removed_all us s.domains) r
      → Settled t g (removed_all us D) r
  settled-after us D s r S e R =
      record {
        rest = R.rest;
        greatest = greatest-removed_all t g us D s.domains R.rest (settled-greatest t g D s S e) R.greatest;
        contradiction = R.contradiction;
        left = R.left;
        ended = R.ended;
        ready = R.ready;
        safe = R.safe;
      }

  module _ (asked following : Removal → List ℕ → X → X) where
    -- so it is for the work list
    pub settled_more : (us : List Removal) (D : List ℕ) (s : State X) → Inside t.count (cells g) us → Settled t g D s → s.empty ≡ false
        → Settled t g (removed_all us D) (propagated t g following (forbids t.count asked us s))
    settled_more us D s i S e =
        settled-after us D s _ S e
        (subst (λ (E : List ℕ). Settled t g E (propagated t g following (forbids t.count asked us s))) (forbids-removed_all t.count asked us s)
        (settled t g A following (forbids t.count asked us s) (forbids-ready t g A asked us s i (S.ready e))))

    -- removals in parts settle what all of them leave
    pub parts-settled : (parts : List (List Removal)) (D : List ℕ) (s : State X) → Inside t.count (cells g) (flatten parts)
        → Fit t.count (cells g) D → Settled t g D s → Settled t g (removed_all (flatten parts) D) (in_parts t g asked following parts s)
    unfolding in_parts flatten removed_all
    parts-settled [] D s i F S = S
    parts-settled (us ∷ parts) D s i F S =
        let (j, k) = inside-parts t.count (cells g) us (flatten parts) i in
        either s.empty refl
        (λ e. parts-settled parts (removed_all us D) (propagated t g following (forbids t.count asked us s)) k (fit-removed_all us F) (settled_more us D s j S e))
      where
        next : State X
        next = in_parts t g asked following parts (propagated t g following (forbids t.count asked us s))

        either : (b : Bool) → s.empty ≡ b → (s.empty ≡ false → Settled t g (removed_all (flatten parts) (removed_all us D)) next)
            → Settled t g (removed_all (flatten (us ∷ parts)) D) (cond b s next)
        either true e f = settled-stays (flatten (us ∷ parts)) D s F S e
        either false e f = subst (λ (E : List ℕ). Settled t g E next) (sym (removed_all-append us (flatten parts) D)) (f e)

-- the same removals, in parts and all together, whatever is kept beside the domains
pub in-parts : (t : Table) (g : Grid) → Accepted t → {X Y : Type 0} (asked following : Removal → List ℕ → X → X) (keep : Removal → List ℕ → Y → Y) (x : X) (y : Y)
    (parts : List (List Removal)) (us : List Removal) → Inside t.count (cells g) (flatten parts) → Inside t.count (cells g) us → Alike (flatten parts) us
    → (settled_as (in_parts t g asked following parts (start t g x)).domains ≡ settled_as (reduced t g keep y us).domains)
    × ((in_parts t g asked following parts (start t g x)).empty ≡ (reduced t g keep y us).empty)
in-parts t g A asked following keep x y parts us i j a =
    settled-one t g _ _ _ _ (parts-settled t g A asked following parts _ (start t g x) i (fit-filled t.count (cells g)) (start-settled t g A x))
    (reduced-settled t g A keep y us j) (removed_all-alike (flatten parts) us (fit-filled t.count (cells g)) a)

-- all together, the order of the removals and their repeats do not matter
pub any_order : (t : Table) (g : Grid) → Accepted t → {X Y : Type 0} (keep : Removal → List ℕ → X → X) (keep' : Removal → List ℕ → Y → Y) (x : X) (y : Y)
    (us vs : List Removal) → Inside t.count (cells g) us → Inside t.count (cells g) vs → Alike us vs
    → (settled_as (reduced t g keep x us).domains ≡ settled_as (reduced t g keep' y vs).domains)
    × ((reduced t g keep x us).empty ≡ (reduced t g keep' y vs).empty)
any_order t g A keep keep' x y us vs i j a =
    settled-one t g _ _ _ _ (reduced-settled t g A keep x us i) (reduced-settled t g A keep' y vs j) (removed_all-alike us vs (fit-filled t.count (cells g)) a)
