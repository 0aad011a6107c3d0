-- The work list does not depend on what is kept beside the domains: each step, that forgotten, is the step that keeps nothing.
-- To forget is a map that every removal commutes with. Follows docs/RULES.md, "Propagation". Assumes nothing.
use mathlib.Core.List.{List}
use mathlib.Core.Path.{◌≡◌, refl}
use Prim.Native.Nat.{ℕ}
use Rattle.adjacency.specs.Tables.{Table}
use Rattle.grid.specs.Grid.{Grid}
use Rattle.consistency.specs.Worklist.{Removal, State, remove, forbids, propagated}
use Rattle.consistency.specs.Start.{start, reduced}
use Rattle.consistency.specs.Forget.{nothing, forget}
use Rattle.consistency.proofs.MapLaws.{mapped-remove, mapped-forbids, mapped-propagated, mapped-start, mapped-reduced}

-- nothing is left of what is kept
abbrev none : {X : Type 0} → X → Unit {0}
none x = tt

module _ (P : ℕ) {X : Type 0} (keep : Removal → List ℕ → X → X) where
  pub forget-remove : (u : Removal) (s : State X) → forget (remove P keep u s) ≡ remove P nothing u (forget s)
  forget-remove = mapped-remove P none keep nothing (λ u D x. refl)

  pub forget-forbids : (us : List Removal) (s : State X) → forget (forbids P keep us s) ≡ forbids P nothing us (forget s)
  forget-forbids = mapped-forbids P none keep nothing (λ u D x. refl)

module _ (t : Table) (g : Grid) {X : Type 0} (keep : Removal → List ℕ → X → X) where
  pub forget-propagated : (s : State X) → forget (propagated t g keep s) ≡ propagated t g nothing (forget s)
  forget-propagated = mapped-propagated t g none keep nothing (λ u D x. refl)

  pub forget-start : (x : X) → forget (start t g x) ≡ start t g tt
  forget-start = mapped-start t g none keep nothing (λ u D x. refl)

  pub forget-reduced : (x : X) (us : List Removal) → forget (reduced t g keep x us) ≡ reduced t g nothing tt us
  forget-reduced = mapped-reduced t g none keep nothing (λ u D x. refl)
