-- Laws of domains less some removals: what is left possible, in which order and how often they go does not matter, and that the work list's
-- forbids leave it. Assumes nothing.
use mathlib.Core.List.{List, [], ◌∷◌, ◌++◌}
use mathlib.Core.Logic.{◌↔◌}
use mathlib.Core.Path.{◌≡◌, refl, sym, ap, ◌∙◌}
use Prim.Native.Nat.{ℕ, zero, suc}
use native.Mathlib.Omega.{arith}
use lib.ListN.{set}
use lib.Seq.{set-get_or}
use Rattle.consistency.specs.Domains.{possible, removed, Fit, Sub}
use Rattle.consistency.specs.Worklist.{Removal, State, remove, forbid_at, forbid, forbids}
use Rattle.consistency.specs.Parts.{removed_all, Spared, Alike}
use Rattle.words.proofs.ChangeLaws.{without-unset}
use Rattle.consistency.proofs.DomainLaws.{possible-removed, possible-removed_other, fit-removed, sub_antisym}

pub fit-removed_all : {P n : ℕ} (us : List Removal) {D : List ℕ} → Fit P n D → Fit P n (removed_all us D)
unfolding removed_all
fit-removed_all [] F = F
fit-removed_all (u ∷ us) F = fit-removed_all us (fit-removed F u.cell u.pattern)

pub removed_all-append : (us vs : List Removal) (D : List ℕ) → removed_all (us ++ vs) D ≡ removed_all vs (removed_all us D)
unfolding removed_all
removed_all-append [] vs D = refl
removed_all-append (u ∷ us) vs D = removed_all-append us vs (removed D u.cell u.pattern)

-- what is left possible is what was and is spared
possible-less : (D : List ℕ) (c p m r : ℕ) → (possible (removed D c p) m r ≡ 1) ↔ ((m ≡ c → r ≡ p → ⊥) × (possible D m r ≡ 1))
possible-less D c p m r =
    (λ h. (away h, sym (possible-removed_other D c p m r (away h)) ∙ h), λ h. possible-removed_other D c p m r h.0 ∙ h.1)
  where
    away : possible (removed D c p) m r ≡ 1 → m ≡ c → r ≡ p → ⊥
    away h e₁ e₂ =
        omega (arith, possible-removed D c p, ap (λ (x : ℕ). possible (removed D c p) x r) e₁, ap (λ (x : ℕ). possible (removed D c p) c x) e₂)

pub possible-removed_all : (us : List Removal) (D : List ℕ) (c p : ℕ) → (possible (removed_all us D) c p ≡ 1) ↔ (Spared us c p × (possible D c p ≡ 1))
unfolding removed_all
possible-removed_all [] D c p = (λ h. (tt, h), λ h. h.1)
possible-removed_all (u ∷ us) D c p =
    let k = possible-removed_all us (removed D u.cell u.pattern) c p in
    let j = possible-less D u.cell u.pattern c p in
    (λ h. let (a, b) = k.0 h in (((j.0 b).0, a), (j.0 b).1), λ h. k.1 (h.0.1, j.1 (h.0.0, h.1)))

pub sub-removed_all : (us : List Removal) (D : List ℕ) → Sub (removed_all us D) D
sub-removed_all us D c p h = ((possible-removed_all us D c p).0 h).1

-- the same removals leave the same
pub removed_all-alike : {P n : ℕ} (us vs : List Removal) {D : List ℕ} → Fit P n D → Alike us vs → removed_all us D ≡ removed_all vs D
removed_all-alike us vs {D} F a = sub_antisym (fit-removed_all us F) (fit-removed_all vs F) (less us vs (λ c p. (a c p).0)) (less vs us (λ c p. (a c p).1))
  where
    less : (us vs : List Removal) → ((c p : ℕ) → Spared us c p → Spared vs c p) → Sub (removed_all us D) (removed_all vs D)
    less us vs f c p h = let (k, l) = (possible-removed_all us D c p).0 h in (possible-removed_all vs D c p).1 (f c p k, l)

-- ---- forbids

module _ (P : ℕ) {X : Type 0} (keep : Removal → List ℕ → X → X) where
  forbid_at-removed : (b : ℕ) (u : Removal) (s : State X) → possible s.domains u.cell u.pattern ≡ b
      → (forbid_at P keep b u s).domains ≡ removed s.domains u.cell u.pattern
  unfolding forbid_at remove
  forbid_at-removed zero u s e =
      sym (ap (λ (w : ℕ). set s.domains u.cell w) (without-unset _ _ e) ∙ set-get_or s.domains u.cell 0)
  forbid_at-removed (suc b) u s e = refl

  -- forbids leave what they do not ask for
  pub forbids-removed_all : (us : List Removal) (s : State X) → (forbids P keep us s).domains ≡ removed_all us s.domains
  unfolding forbids forbid removed_all
  forbids-removed_all [] s = refl
  forbids-removed_all (u ∷ us) s =
      forbids-removed_all us (forbid P keep u s) ∙ ap (removed_all us) (forbid_at-removed (possible s.domains u.cell u.pattern) u s refl)
