-- What is kept beside the domains, step by step: what holds of the domains and of what is kept, and stays so at every removal, holds after every step of
-- the work list. Follows docs/RULES.md, "Propagation". Assumes nothing.
use mathlib.Core.Bool.{Bool, true, false}
use mathlib.Core.List.{List, [], ◌∷◌}
use Rattle.std.specs.Prelude.{Option, None, Some}
use mathlib.Core.Path.{◌≡◌, refl, sym, ap, ◌∙◌}
use Prim.Native.Nat.{ℕ, zero, suc, ◌*◌, ◌<◌}
use native.Mathlib.Omega.{arith}
use lib.Dec.{lit<}
use lib.ListN.{get_or}
use Rattle.adjacency.specs.Tables.{Table, list_of}
use Rattle.adjacency.specs.Accepted.{AllBelow, Accepted}
use Rattle.grid.specs.Grid.{Grid, cells, neighbour}
use Rattle.consistency.specs.Domains.{possible, removed}
use Rattle.consistency.specs.Worklist.{Removal, removal, State, state, place, remove, decrement_at, decrement, decrements, toward, forbid_at, forbid, forbids, spread_in, spread, propagate, propagated}
use Rattle.consistency.specs.Safe.{Inside, Safe}
use Rattle.words.proofs.BitLaws.{bit-lt}
use Rattle.grid.proofs.GridLaws.{neighbour-inside}
use Rattle.consistency.proofs.MapLaws.{mapped, mapped-propagated}
use Rattle.consistency.proofs.SettledLaws.{safe-beside}
use Rattle.consistency.proofs.Keep.{counted-possible, pending-inside, safe-popped, safe-decrement, safe-spread_in, safe-turn}

-- it stays so at every removal
abbrev pub Stays : {X : Type 0} → (Removal → List ℕ → X → X) → (List ℕ → X → Type 0) → Type 0
Stays {X} keep A = (u : Removal) (D : List ℕ) (x : X) → A D x → A (removed D u.cell u.pattern) (keep u (removed D u.cell u.pattern) x)

-- it holds of a state
abbrev pub Holds : {X : Type 0} → (List ℕ → X → Type 0) → State X → Type 0
Holds A s = A s.domains s.beside

module _ (P : ℕ) {X : Type 0} (keep : Removal → List ℕ → X → X) (A : List ℕ → X → Type 0) (h : Stays keep A) where
  holds-remove : (u : Removal) (s : State X) → Holds A s → Holds A (remove P keep u s)
  unfolding remove
  holds-remove u s a = h u s.domains s.beside a

  holds-decrement_at : (n d q count : ℕ) (s : State X) → Holds A s → Holds A (decrement_at P keep n d q count s)
  unfolding decrement_at
  holds-decrement_at n d q zero s a = a
  holds-decrement_at n d q (suc zero) s a = holds-remove (removal n q) s a
  holds-decrement_at n d q (suc (suc count)) s a = a

  holds-decrements : (n d : ℕ) (qs : List ℕ) (s : State X) → Holds A s → Holds A (decrements P keep n d qs s)
  unfolding decrements decrement
  holds-decrements n d [] s a = a
  holds-decrements n d (q ∷ qs) s a =
      holds-decrements n d qs (decrement P keep n d q s) (holds-decrement_at n d q (get_or s.counts (place P n q d) 0) s a)

  holds-toward : (o : Option ℕ) (d : ℕ) (qs : List ℕ) (s : State X) → Holds A s → Holds A (toward P keep o d qs s)
  unfolding toward
  holds-toward None d qs s a = a
  holds-toward (Some n) d qs s a = holds-decrements n d qs s a

  holds-forbid_at : (b : ℕ) (u : Removal) (s : State X) → Holds A s → Holds A (forbid_at P keep b u s)
  unfolding forbid_at
  holds-forbid_at zero u s a = a
  holds-forbid_at (suc b) u s a = holds-remove u s a

  -- after removals that are asked for
  pub holds-forbids : (us : List Removal) (s : State X) → Holds A s → Holds A (forbids P keep us s)
  unfolding forbids forbid
  holds-forbids [] s a = a
  holds-forbids (u ∷ us) s a = holds-forbids us (forbid P keep u s) (holds-forbid_at (possible s.domains u.cell u.pattern) u s a)

module _ (t : Table) (g : Grid) {X : Type 0} (keep : Removal → List ℕ → X → X) (A : List ℕ → X → Type 0) (h : Stays keep A) where
  holds-spread_in : (u : Removal) (d : ℕ) (s : State X) → Holds A s → Holds A (spread_in t g keep u d s)
  unfolding spread_in
  holds-spread_in u d s a = holds-toward t.count keep A h (neighbour g u.cell d) d (list_of t u.pattern d) s a

  holds-spread : (u : Removal) (s : State X) → Holds A s → Holds A (spread t g keep u s)
  unfolding spread
  holds-spread u s a = holds-spread_in u 3 _ (holds-spread_in u 2 _ (holds-spread_in u 1 _ (holds-spread_in u 0 s a)))

  holds-propagate : (fuel : ℕ) (counts domains : List ℕ) (pending : List Removal) (empty : Bool) (x : X) → A domains x
      → Holds A (propagate t g keep fuel (state counts domains pending empty x))
  unfolding propagate
  holds-propagate zero counts domains pending empty x a = a
  holds-propagate (suc fuel) counts domains [] empty x a = a
  holds-propagate (suc fuel) counts domains (u ∷ us) true x a = a
  holds-propagate (suc fuel) counts domains (u ∷ us) false x a =
      let s = spread t g keep u (state counts domains us false x) in
      holds-propagate fuel s.counts s.domains s.pending s.empty s.beside (holds-spread u (state counts domains us false x) a)

  -- after a propagation
  pub holds-propagated : (s : State X) → Holds A s → Holds A (propagated t g keep s)
  unfolding propagated
  holds-propagated s a = holds-propagate (cells g * t.count) s.counts s.domains s.pending s.empty s.beside a

-- ---- where only patterns that are possible go

-- it stays so at every removal, at a cell of n, of a pattern of P that is possible
abbrev pub Endures : (P n : ℕ) {X : Type 0} → (Removal → List ℕ → X → X) → (List ℕ → X → Type 0) → Type 0
Endures P n {X} keep A =
    (u : Removal) (D : List ℕ) (x : X) → u.cell < n → possible D u.cell u.pattern ≡ 1 → A D x
    → A (removed D u.cell u.pattern) (keep u (removed D u.cell u.pattern) x)

module _ (P n M : ℕ) {X : Type 0} (keep : Removal → List ℕ → X → X) (A : List ℕ → X → Type 0) (h : Endures P n keep A) where
  endures_remove : (u : Removal) (s : State X) → u.cell < n → possible s.domains u.cell u.pattern ≡ 1 → Holds A s → Holds A (remove P keep u s)
  unfolding remove
  endures_remove u s l p a = h u s.domains s.beside l p a

  endures_decrement_at : (c d q b : ℕ) (s : State X) → c < n → d < 4 → q < P → get_or s.counts (place P c q d) 0 ≡ b → Safe P n M s → Holds A s
      → Holds A (decrement_at P keep c d q b s)
  unfolding decrement_at
  endures_decrement_at c d q zero s hc hd hq e S a = a
  endures_decrement_at c d q (suc zero) s hc hd hq e S a = endures_remove (removal c q) s hc (counted-possible P n M s S c q d hc hq hd (omega arith)) a
  endures_decrement_at c d q (suc (suc b)) s hc hd hq e S a = a

  endures_decrements : (c d : ℕ) (qs : List ℕ) (s : State X) → c < n → d < 4 → AllBelow P qs → Safe P n M s → Holds A s → Holds A (decrements P keep c d qs s)
  unfolding decrements decrement
  endures_decrements c d [] s hc hd b S a = a
  endures_decrements c d (q ∷ qs) s hc hd b S a =
      endures_decrements c d qs (decrement P keep c d q s) hc hd b.1 (safe-decrement P n M keep c d q s hc hd b.0 S)
      (endures_decrement_at c d q (get_or s.counts (place P c q d) 0) s hc hd b.0 refl S a)

  endures_toward : (o : Option ℕ) (d : ℕ) (qs : List ℕ) (s : State X) → ((c : ℕ) → o ≡ Some c → c < n) → d < 4 → AllBelow P qs → Safe P n M s → Holds A s
      → Holds A (toward P keep o d qs s)
  unfolding toward
  endures_toward None d qs s l hd b S a = a
  endures_toward (Some c) d qs s l hd b S a = endures_decrements c d qs s (l c refl) hd b S a

  endures_forbid_at : (b : ℕ) (u : Removal) (s : State X) → u.cell < n → possible s.domains u.cell u.pattern ≡ b → Holds A s → Holds A (forbid_at P keep b u s)
  unfolding forbid_at
  endures_forbid_at zero u s l e a = a
  endures_forbid_at (suc b) u s l e a = endures_remove u s l (omega (arith, bit-lt (get_or s.domains u.cell 0) u.pattern)) a

  -- after removals that are asked for
  pub endures_forbids : (us : List Removal) (s : State X) → Inside P n us → Holds A s → Holds A (forbids P keep us s)
  unfolding forbids forbid
  endures_forbids [] s i a = a
  endures_forbids (u ∷ us) s i a =
      endures_forbids us (forbid P keep u s) i.2 (endures_forbid_at (possible s.domains u.cell u.pattern) u s i.0 refl a)

module _ (t : Table) (g : Grid) (T : Accepted t) {X : Type 0} (keep : Removal → List ℕ → X → X) (A : List ℕ → X → Type 0) (h : Endures t.count (cells g) keep A) where
  module _ (M : ℕ) (u : Removal) (hc : u.cell < cells g) (hp : u.pattern < t.count) where
    endures_spread_in : (d : ℕ) (s : State X) → d < 4 → Safe t.count (cells g) M s → Holds A s → Holds A (spread_in t g keep u d s)
    unfolding spread_in
    endures_spread_in d s hd S a =
        endures_toward t.count (cells g) M keep A h (neighbour g u.cell d) d (list_of t u.pattern d) s (λ c. neighbour-inside g u.cell d c hc hd) hd
        (T.listed.below u.pattern d hp hd) S a

    endures_spread : (s : State X) → Safe t.count (cells g) M s → Holds A s → Holds A (spread t g keep u s)
    unfolding spread
    endures_spread s S a =
        let S₁ = safe-spread_in t g T keep M u 0 s hc hp (lit< tt) S in
        let S₂ = safe-spread_in t g T keep M u 1 _ hc hp (lit< tt) S₁ in
        let S₃ = safe-spread_in t g T keep M u 2 _ hc hp (lit< tt) S₂ in
        endures_spread_in 3 _ (lit< tt) S₃ (endures_spread_in 2 _ (lit< tt) S₂ (endures_spread_in 1 _ (lit< tt) S₁ (endures_spread_in 0 s (lit< tt) S a)))

  endures_propagate : (M fuel : ℕ) (counts domains : List ℕ) (pending : List Removal) (empty : Bool) (x : X)
      → Safe t.count (cells g) M (state counts domains pending empty x) → A domains x → Holds A (propagate t g keep fuel (state counts domains pending empty x))
  unfolding propagate
  endures_propagate M zero counts domains pending empty x S a = a
  endures_propagate M (suc fuel) counts domains [] empty x S a = a
  endures_propagate M (suc fuel) counts domains (u ∷ us) true x S a = a
  endures_propagate zero (suc fuel) counts domains (u ∷ us) false x S a = absurd (omega (arith, S.room))
  endures_propagate (suc M) (suc fuel) counts domains (u ∷ us) false x S a =
      let full = state counts domains (u ∷ us) false x in
      let (hc, hp) = pending-inside t.count (cells g) (suc M) full u us refl S in
      let r = spread t g keep u (state counts domains us false x) in
      endures_propagate M fuel r.counts r.domains r.pending r.empty r.beside (safe-turn t g T keep full u us refl M S)
      (endures_spread M u hc hp (state counts domains us false x) (safe-popped t.count (cells g) M full u us refl S) a)

  -- after a propagation
  pub endures_propagated : (M : ℕ) (s : State X) → Safe t.count (cells g) M s → Holds A s → Holds A (propagated t g keep s)
  unfolding propagated
  endures_propagated M s S a = endures_propagate M (cells g * t.count) s.counts s.domains s.pending s.empty s.beside S a

-- ---- where the map of what is kept commutes with the removals at cells of the grid alone

module _ (t : Table) (g : Grid) (T : Accepted t) {X Y : Type 0} (f : X → Y) (keep : Removal → List ℕ → X → X) (keep' : Removal → List ℕ → Y → Y)
    (h : (u : Removal) (D : List ℕ) (x : X) → u.cell < cells g → f (keep u D x) ≡ keep' u D (f x)) where
  -- both are kept side by side, and the second stays the map of the first
  abbrev twice : Removal → List ℕ → X × Y → X × Y
  twice u D z = (keep u D z.0, keep' u D z.1)

  abbrev Maps : List ℕ → X × Y → Type 0
  Maps D z = f z.0 ≡ z.1

  maps_endures : Endures t.count (cells g) twice Maps
  maps_endures u D z l p e = h u _ z.0 l ∙ ap (keep' u _) e

  -- the work list commutes with the map
  pub mapped-inside : (M : ℕ) (s : State X) → Safe t.count (cells g) M s → mapped f (propagated t g keep s) ≡ propagated t g keep' (mapped f s)
  mapped-inside M s S =
      let s₂ : State (X × Y) = mapped (λ (x : X). (x, f x)) s in
      let r = propagated t g twice s₂ in
      ap (mapped f) (sym (mapped-propagated t g (λ (z : X × Y). z.0) twice keep (λ u D z. refl) s₂))
      ∙ ap (λ (y : Y). state r.counts r.domains r.pending r.empty y)
      (endures_propagated t g T twice Maps maps_endures M s₂ (safe-beside s (s.beside, f s.beside) t.count (cells g) M S) refl)
      ∙ mapped-propagated t g (λ (z : X × Y). z.1) twice keep' (λ u D z. refl) s₂
