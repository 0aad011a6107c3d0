-- Laws of the work list's steps on lent slices: the ways through each function, and what each leaves for the next.
-- Follows docs/RULES.md, "Propagation".
-- Assumes nothing.
use mathlib.Core.Bool.{Bool, true, false, not, ◌&&◌}
use mathlib.Core.List.{List}
use Rattle.std.specs.Prelude.{Option, None, Some}
use mathlib.Core.Path.{◌≡◌, refl, sym, ap, subst, ◌∙◌}
use Prim.Native.Nat.{ℕ, ◌+◌, ◌-◌, ◌*◌, ◌/◌, ◌%◌, ◌≤◌, ◌<◌}
use native.Mathlib.Decide.{ℕ_discrete}
use native.Mathlib.Nat.{le_refl}
use native.Mathlib.Omega.{arith}
use lib.Dec.{ltb}
use lib.ListN.{length}
use borrow.Author.Tests.{ltb-true, lt-ltb, not-true, not-false}
use Rattle.loops.specs.Loops.{steps}
use Rattle.adjacency.specs.Tables.{Table, list_of}
use Rattle.grid.specs.Grid.{Grid, cells, neighbour}
use Rattle.consistency.specs.Domains.{possible, Fit}
use Rattle.consistency.specs.Worklist.{Removal, removal, State, remove, decrements, spread_in, spread, propagate, propagated}
use Rattle.consistency.specs.Safe.{total, Safe}
use Rattle.propagation.specs.declared.inner.propagator.Pile.{Pile}
use Rattle.propagation.specs.Lent.{pending_of, state_of, top_of, below_top, Lent, Ground}
use Rattle.loops.proofs.TestLaws.{both}
use Rattle.grid.proofs.GridLaws.{neighbour-inside}
use Rattle.consistency.proofs.Keep.{safe-remove, safe-spread_in, safe-spread, propagate-step, propagate_none, propagate-empty}
use Rattle.propagation.proofs.LentLaws.{pending-length, pending-top, lent-safe, top-cell, top-pattern, below_top-safe}

-- ---- a pattern goes in propagation

module _ {P n : ℕ} {D C Q : List ℕ} {pile : Pile} (L : Lent P n D C Q pile) where
  pub fit-remove : {X : Type 0} (keep : Removal → List ℕ → X → X) {c p : ℕ} (x : X) {s : State X} → c < n → p < P → possible D c p ≡ 1
      → s ≡ remove P keep (removal c p) (state_of P D C Q pile x) → Fit P n s.domains
  fit-remove keep {c} {p} x hc hp h e =
      (subst (λ (z : State _). Safe P n (n * P) z) (sym e) (safe-remove P n (n * P) keep (removal c p) (state_of P D C Q pile x) hc hp h (lent-safe L x))).fit

-- ---- a direction

-- a neighbour that is a cell is one of the grid
pub cell-inside : {t : Table} {g : Grid} {n c d m : ℕ} {v : Option ℕ} → Ground t g n → c < n → d < 4 → v ≡ neighbour g c d → v ≡ Some m → m < n
cell-inside {t} {g} {n} {c} {d} {m} G hc hd e k =
    omega (arith, G.all, neighbour-inside g c d m (omega (arith, G.all)) hd (sym e ∙ k))

-- the ways through `spread_in`
module _ (t : Table) (g : Grid) {X : Type 0} (keep : Removal → List ℕ → X → X) (c p d : ℕ) (s : State X) {v : Option ℕ} (e : v ≡ neighbour g c d) where
  pub spread_in-cell : {m : ℕ} {list : List ℕ} {s' : State X} → v ≡ Some m → list ≡ list_of t p d → s' ≡ decrements t.count keep m d list s
      → s' ≡ spread_in t g keep (removal c p) d s
  unfolding spread_in
  spread_in-cell k l f = rw (sym e ∙ k, f, l)

  pub spread_in-edge : v ≡ None → s ≡ spread_in t g keep (removal c p) d s
  unfolding spread_in
  spread_in-edge k = rw (sym e ∙ k)

-- ---- all four directions

pub spread-steps : (t : Table) (g : Grid) {X : Type 0} (keep : Removal → List ℕ → X → X) (u : Removal) (s : State X)
    → spread t g keep u s ≡ steps (spread_in t g keep u) 0 4 s
unfolding spread steps
spread-steps t g keep u s = refl

-- the steps of an accepted table and grid keep a state safe; n is how many cells the grid has
module _ {t : Table} {g : Grid} {n : ℕ} (G : Ground t g n) {X : Type 0} where
  all-cells : {M c : ℕ} {s s' : State X} → (c < cells g → Safe t.count (cells g) M s → Safe t.count (cells g) M s')
      → c < n → Safe t.count n M s → Safe t.count n M s'
  all-cells {M} {c} {s} {s'} f = subst (λ (k : ℕ). c < k → Safe t.count k M s → Safe t.count k M s') (sym G.all) f

  module _ (keep : Removal → List ℕ → X → X) {M c p : ℕ} {s : State X} (hc : c < n) (hp : p < t.count) where
    pub ground_spread_in : {d : ℕ} → d < 4 → Safe t.count n M s → Safe t.count n M (spread_in t g keep (removal c p) d s)
    ground_spread_in hd = all-cells (λ h. safe-spread_in t g G.accepted keep M (removal c p) _ s h hp hd) hc

    pub ground_spread : Safe t.count n M s → Safe t.count n M (spread t g keep (removal c p) s)
    ground_spread = all-cells (λ h. safe-spread t g G.accepted keep M (removal c p) s h hp) hc

-- ---- the removal on top of the pile

-- a removal that is read from its slot
pub spread-slot : (t : Table) (g : Grid) {X : Type 0} (keep : Removal → List ℕ → X → X) (P : ℕ) (s : State X) {u v : ℕ} {s' : State X} → u ≡ v
    → s' ≡ spread t g keep (removal (u / P) (u % P)) s → s' ≡ spread t g keep (removal (v / P) (v % P)) s
spread-slot t g keep P s e k = rw e at k

-- ---- the loop: while a removal is pending and no cell is empty

abbrev pub unfinished : Pile → Bool
unfinished pile = ltb 0 pile.top && not pile.empty

pub unfinished_some : (pile : Pile) → unfinished pile ≡ true → 0 < pile.top
unfinished_some pile p = ltb-true _ _ (both _ (not pile.empty) p).0

module _ {t : Table} {g : Grid} {n : ℕ} (G : Ground t g n) {X : Type 0} (keep : Removal → List ℕ → X → X) {D C Q : List ℕ} {pile : Pile}
    (L : Lent t.count n D C Q pile) (x : X) where
  module _ (p : unfinished pile ≡ true) {s : State X} (e : s ≡ spread t g keep (top_of t.count Q pile) (state_of t.count D C Q (below_top pile) x)) where
    some : 0 < pile.top
    some = unfinished_some pile p

    turn-room : (M : ℕ) → pile.top - 1 + total t.count n D ≤ M → Safe t.count n M s
    turn-room M h = subst (λ (z : State X). Safe t.count n M z) (sym e) (ground_spread G keep (top-cell L some) (top-pattern L some) (below_top-safe L some x M h))

    pub turn-safe : Safe t.count n (n * t.count) s
    turn-safe = turn-room (n * t.count) (omega (arith, L.safe.room, pending-length t.count Q pile.top))

    -- a turn leaves less to do
    pub turn-less : length s.pending + total t.count n s.domains < pile.top + total t.count n D
    turn-less = omega (arith, some, (turn-room (pile.top - 1 + total t.count n D) (le_refl _)).room)

    -- a turn leads to the same end
    pub propagated-turn : propagated t g keep s ≡ propagated t g keep (state_of t.count D C Q pile x)
    unfolding propagated
    propagated-turn =
        ap (propagate t g keep (cells g * t.count)) e
        ∙ sym
        (propagate-step t g G.accepted keep (cells g * t.count) _ (cells g * t.count) (le_refl _)
        (subst (λ (k : ℕ). Safe t.count k (k * t.count) (state_of t.count D C Q pile x)) G.all (lent-safe L x))
        (top_of t.count Q pile) _ (pending-top t.count Q pile some) (not-true _ (both (ltb 0 pile.top) _ p).1))

  -- where nothing is pending or a cell is empty it has ended
  pub propagated-end : unfinished pile ≡ false → propagated t g keep (state_of t.count D C Q pile x) ≡ state_of t.count D C Q pile x
  unfolding propagated pending_of
  propagated-end p =
      elim (ℕ_discrete pile.top 0) [
        | yes z ↦ propagate_none t g G.accepted keep (cells g * t.count) _ (ap (pending_of t.count Q) z)
        | no z ↦ propagate-empty t g G.accepted keep (cells g * t.count) _ (not-false _ (rw (lt-ltb 0 pile.top (omega arith)) at p))
      ]
