-- The work list commutes with a map of what is kept beside the domains, where each removal does.
-- Follows docs/RULES.md, "Propagation". Assumes nothing.
use mathlib.Core.Bool.{Bool, true, false}
use mathlib.Core.List.{List, [], ◌∷◌}
use Rattle.std.specs.Prelude.{Option, None, Some}
use mathlib.Core.Path.{◌≡◌, refl, ap, ◌∙◌}
use Prim.Native.Nat.{ℕ, zero, suc, ◌*◌}
use lib.ListN.{get_or}
use Rattle.adjacency.specs.Tables.{Table, list_of}
use Rattle.grid.specs.Grid.{Grid, cells, neighbour}
use Rattle.consistency.specs.Domains.{possible, removed}
use Rattle.consistency.specs.Worklist.{Removal, removal, State, state, place, remove, decrement_at, decrement, decrements, toward, forbid_at, forbid, forbids, spread_in, spread, propagate, propagated}
use Rattle.consistency.specs.Start.{start, reduced}

-- a state with a map of what is kept beside the domains
abbrev pub mapped : {X Y : Type 0} → (X → Y) → State X → State Y
mapped f s = state s.counts s.domains s.pending s.empty (f s.beside)

-- the map of what a removal keeps is what it keeps of the map
abbrev pub Commutes : {X Y : Type 0} → (X → Y) → (Removal → List ℕ → X → X) → (Removal → List ℕ → Y → Y) → Type 0
Commutes {X} f keep keep' = (u : Removal) (D : List ℕ) (x : X) → f (keep u D x) ≡ keep' u D (f x)

module _ (P : ℕ) {X Y : Type 0} (f : X → Y) (keep : Removal → List ℕ → X → X) (keep' : Removal → List ℕ → Y → Y) (h : Commutes f keep keep') where
  pub mapped-remove : (u : Removal) (s : State X) → mapped f (remove P keep u s) ≡ remove P keep' u (mapped f s)
  unfolding remove
  mapped-remove u s =
      let r = remove P keep u s in
      ap (λ (y : Y). state r.counts r.domains r.pending r.empty y) (h u (removed s.domains u.cell u.pattern) s.beside)

  mapped-decrement_at : (n d q count : ℕ) (s : State X) → mapped f (decrement_at P keep n d q count s) ≡ decrement_at P keep' n d q count (mapped f s)
  unfolding decrement_at
  mapped-decrement_at n d q zero s = refl
  mapped-decrement_at n d q (suc zero) s = mapped-remove (removal n q) s
  mapped-decrement_at n d q (suc (suc count)) s = refl

  mapped-decrements : (n d : ℕ) (qs : List ℕ) (s : State X) → mapped f (decrements P keep n d qs s) ≡ decrements P keep' n d qs (mapped f s)
  unfolding decrements decrement
  mapped-decrements n d [] s = refl
  mapped-decrements n d (q ∷ qs) s =
      mapped-decrements n d qs (decrement P keep n d q s)
      ∙ ap (decrements P keep' n d qs) (mapped-decrement_at n d q (get_or s.counts (place P n q d) 0) s)

  mapped-toward : (o : Option ℕ) (d : ℕ) (qs : List ℕ) (s : State X) → mapped f (toward P keep o d qs s) ≡ toward P keep' o d qs (mapped f s)
  unfolding toward
  mapped-toward None d qs s = refl
  mapped-toward (Some n) d qs s = mapped-decrements n d qs s

  mapped-forbid_at : (b : ℕ) (u : Removal) (s : State X) → mapped f (forbid_at P keep b u s) ≡ forbid_at P keep' b u (mapped f s)
  unfolding forbid_at
  mapped-forbid_at zero u s = refl
  mapped-forbid_at (suc b) u s = mapped-remove u s

  pub mapped-forbids : (us : List Removal) (s : State X) → mapped f (forbids P keep us s) ≡ forbids P keep' us (mapped f s)
  unfolding forbids forbid
  mapped-forbids [] s = refl
  mapped-forbids (u ∷ us) s =
      mapped-forbids us (forbid P keep u s) ∙ ap (forbids P keep' us) (mapped-forbid_at (possible s.domains u.cell u.pattern) u s)

module _ (t : Table) (g : Grid) {X Y : Type 0} (f : X → Y) (keep : Removal → List ℕ → X → X) (keep' : Removal → List ℕ → Y → Y) (h : Commutes f keep keep') where
  mapped-spread : (u : Removal) (s : State X) → mapped f (spread t g keep u s) ≡ spread t g keep' u (mapped f s)
  unfolding spread spread_in
  mapped-spread u s = after 3 _ _ (after 2 _ _ (after 1 _ _ (after 0 s _ refl)))
    where
      after : (d : ℕ) (r : State X) (z : State Y) → mapped f r ≡ z → mapped f (spread_in t g keep u d r) ≡ spread_in t g keep' u d z
      after d r z e = mapped-toward t.count f keep keep' h (neighbour g u.cell d) d (list_of t u.pattern d) r ∙ ap (spread_in t g keep' u d) e

  mapped-propagate : (fuel : ℕ) (counts domains : List ℕ) (pending : List Removal) (empty : Bool) (x : X)
      → mapped f (propagate t g keep fuel (state counts domains pending empty x)) ≡ propagate t g keep' fuel (state counts domains pending empty (f x))
  unfolding propagate
  mapped-propagate zero counts domains pending empty x = refl
  mapped-propagate (suc fuel) counts domains [] empty x = refl
  mapped-propagate (suc fuel) counts domains (u ∷ us) true x = refl
  mapped-propagate (suc fuel) counts domains (u ∷ us) false x =
      let s = spread t g keep u (state counts domains us false x) in
      mapped-propagate fuel s.counts s.domains s.pending s.empty s.beside
      ∙ ap (propagate t g keep' fuel) (mapped-spread u (state counts domains us false x))

  pub mapped-propagated : (s : State X) → mapped f (propagated t g keep s) ≡ propagated t g keep' (mapped f s)
  unfolding propagated
  mapped-propagated s = mapped-propagate (cells g * t.count) s.counts s.domains s.pending s.empty s.beside

  pub mapped-start : (x : X) → mapped f (start t g x) ≡ start t g (f x)
  unfolding start
  mapped-start x = refl

  pub mapped-reduced : (x : X) (us : List Removal) → mapped f (reduced t g keep x us) ≡ reduced t g keep' (f x) us
  unfolding reduced
  mapped-reduced x us =
      mapped-propagated (forbids t.count keep us (start t g x))
      ∙ ap (propagated t g keep') (mapped-forbids t.count f keep keep' h us (start t g x) ∙ ap (forbids t.count keep' us) (mapped-start x))
