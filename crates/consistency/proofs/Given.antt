-- Starting domains that are given: full domains less what they lack. Their propagation leaves their greatest consistent subset.
-- Follows docs/RULES.md, "Propagation". Assumes nothing.
use mathlib.Core.Bool.{true}
use mathlib.Core.List.{List}
use mathlib.Core.Path.{◌≡◌, subst}
use Prim.Native.Nat.{ℕ, ◌+◌}
use native.Mathlib.Omega.{arith}
use Rattle.adjacency.specs.Tables.{Table}
use Rattle.adjacency.specs.Accepted.{Accepted}
use Rattle.grid.specs.Grid.{Grid, cells}
use Rattle.consistency.specs.Domains.{filled, Fit, Sub, settled_as}
use Rattle.consistency.specs.Consistent.{Greatest}
use Rattle.consistency.specs.Worklist.{Removal}
use Rattle.consistency.specs.Start.{reduced, missing}
use Rattle.consistency.specs.Parts.{removed_all}
use Rattle.consistency.proofs.DomainLaws.{pattern-below, cell_below, sub_antisym, fit-filled, sub-filled}
use Rattle.consistency.proofs.RemovalLaws.{missing-inside, spared-missing}
use Rattle.consistency.proofs.RemovedAllLaws.{possible-removed_all, fit-removed_all}
use Rattle.consistency.proofs.Settled.{Settled}
use Rattle.consistency.proofs.SettledLaws.{settled-less}
use Rattle.consistency.proofs.StartLaws.{reduced-settled}

-- full domains less what D lacks are D
pub removed_all-missing : {P n : ℕ} {D : List ℕ} → Fit P n D → removed_all (missing P 0 D) (filled P n) ≡ D
removed_all-missing {P} {n} {D} F =
    sub_antisym E F
    (λ c p h. (spared-missing P 0 D c p).0 ((possible-removed_all (missing P 0 D) (filled P n) c p).0 h).0 c (omega arith) (omega (arith, cell_below E c p h, F.sized)) (pattern-below E c p h))
    (λ c p h.
    (possible-removed_all (missing P 0 D) (filled P n) c p).1
    ((spared-missing P 0 D c p).1 (λ j e l k. rw (← at c j e) h), sub-filled F c p h))
  where
    E : Fit P n (removed_all (missing P 0 D) (filled P n))
    E = fit-removed_all (missing P 0 D) (fit-filled P n)

    at : (c j : ℕ) → c ≡ 0 + j → c ≡ j
    at c j e = omega arith

-- ---- the theorem for starting domains

module _ (t : Table) (g : Grid) (A : Accepted t) {X : Type 0} (keep : Removal → List ℕ → X → X) (x : X) where
  -- the propagation of what D lacks settles D
  pub given-settled : (D : List ℕ) → Fit t.count (cells g) D → Settled t g D (reduced t g keep x (missing t.count 0 D))
  given-settled D F =
      subst (λ (E : List ℕ). Settled t g E (reduced t g keep x (missing t.count 0 D))) (removed_all-missing F)
      (reduced-settled t g A keep x (missing t.count 0 D) (missing-inside t.count (cells g) 0 D (omega (arith, F.sized))))

  -- smaller starting domains never leave a cell a new pattern, and never lift a contradiction
  pub shrinks : (D E : List ℕ) → Fit t.count (cells g) D → Fit t.count (cells g) E → Sub D E
      → Sub (settled_as (reduced t g keep x (missing t.count 0 D)).domains) (settled_as (reduced t g keep x (missing t.count 0 E)).domains)
      × ((reduced t g keep x (missing t.count 0 E)).empty ≡ true → (reduced t g keep x (missing t.count 0 D)).empty ≡ true)
  shrinks D E F G h = settled-less t g D E _ _ (given-settled D F) (given-settled E G) h

-- a greatest consistent subset exists
pub greatest_exists : (t : Table) (g : Grid) → Accepted t → (D : List ℕ) → Fit t.count (cells g) D → (G : List ℕ) × Greatest t g D G
greatest_exists t g A D F = let S = given-settled t g A {X = Unit {0}} (λ _ _ x. x) tt D F in (S.rest, S.greatest)
