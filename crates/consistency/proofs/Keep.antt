-- Every step of the work list keeps a state safe, and any fuel that is enough leads to the same end: what the code's proofs cite.
-- Assumes nothing.
use mathlib.Core.Bool.{Bool, true, false, ◌||◌}
use mathlib.Core.List.{List, [], ◌∷◌}
use Rattle.std.specs.Prelude.{Option, None, Some}
use mathlib.Core.Path.{◌≡◌, refl, sym, ap, subst, subst₂, ◌∙◌}
use Prim.Native.Nat.{ℕ, zero, suc, ◌+◌, ◌*◌, ◌≤◌, ◌<◌}
use native.Mathlib.Decide.{ℕ_discrete}
use native.Mathlib.Omega.{arith}
use lib.Dec.{lit<, eqb}
use lib.ListN.{length, get_or, set, length-set}
use lib.Seq.{get_or-set_other}
use Rattle.loops.specs.Sums.{sum_to}
use Rattle.words.specs.Words.{without}
use Rattle.adjacency.specs.Tables.{Table, list_of}
use Rattle.adjacency.specs.Accepted.{AllBelow, Accepted}
use Rattle.grid.specs.Grid.{Grid, cells, neighbour}
use Rattle.consistency.specs.Domains.{possible, removed}
use Rattle.consistency.specs.Worklist.{Removal, removal, State, state, place, four_cleared, remove, decrement_at, decrement, decrements, toward, forbid_at, forbid, forbids, spread_in, spread, popped, propagate}
use Rattle.consistency.specs.Safe.{total, Inside, Safe}
use Rattle.loops.proofs.SumLaws.{sum-ext, sum-at}
use Rattle.words.proofs.BitLaws.{bit-lt}
use Rattle.grid.proofs.GridLaws.{neighbour-inside}
use Rattle.consistency.proofs.DomainLaws.{possible-removed, possible-removed_other, fit-removed, emptied-removed}
use Rattle.consistency.proofs.Counting.{Less}

-- ---- what a removal does to the domains, the counts and the total

-- the domains without a pattern that was possible
pub removed-less : (D : List ℕ) (c p : ℕ) → possible D c p ≡ 1 → Less (possible D) (possible (removed D c p)) c p
removed-less D c p h = record { was = h; gone = possible-removed D c p; rest = possible-removed_other D c p }

-- 0 stands past the end too, so no bound is asked
zeroed : (l : List ℕ) (i j : ℕ) → j ≡ i → get_or (set l i 0) j 0 ≡ 0
zeroed [] i j e = refl
zeroed (x ∷ l) zero zero e = refl
zeroed (x ∷ l) (suc i) (suc j) e = zeroed l i j (omega arith)
zeroed (x ∷ l) zero (suc j) e = absurd (omega arith)
zeroed (x ∷ l) (suc i) zero e = absurd (omega arith)

keeps-zero : (l : List ℕ) (i j : ℕ) → get_or l j 0 ≡ 0 → get_or (set l i 0) j 0 ≡ 0
keeps-zero l i j e = elim (ℕ_discrete j i) [ yes z ↦ zeroed l i j z | no z ↦ get_or-set_other l i j 0 0 z ∙ e ]

module _ (l : List ℕ) (k j : ℕ) where
  abbrev l₁ : List ℕ
  l₁ = set l k 0

  abbrev l₂ : List ℕ
  l₂ = set l₁ (k + 1) 0

  abbrev l₃ : List ℕ
  l₃ = set l₂ (k + 2) 0

  -- the four counts are zero
  four_cleared_in : (d : ℕ) → d < 4 → j ≡ k + d → get_or (four_cleared l k) j 0 ≡ 0
  four_cleared_in zero h e = keeps-zero l₃ (k + 3) j (keeps-zero l₂ (k + 2) j (keeps-zero l₁ (k + 1) j (zeroed l k j (omega arith))))
  four_cleared_in (suc zero) h e = keeps-zero l₃ (k + 3) j (keeps-zero l₂ (k + 2) j (zeroed l₁ (k + 1) j e))
  four_cleared_in (suc (suc zero)) h e = keeps-zero l₃ (k + 3) j (zeroed l₂ (k + 2) j e)
  four_cleared_in (suc (suc (suc zero))) h e = zeroed l₃ (k + 3) j e
  four_cleared_in (suc (suc (suc (suc d)))) h e = absurd (omega arith)

  -- and all others stay
  pub four_cleared-out : ((d : ℕ) → d < 4 → j ≡ k + d → ⊥) → get_or (four_cleared l k) j 0 ≡ get_or l j 0
  four_cleared-out f =
      get_or-set_other l₃ (k + 3) j 0 0 (f 3 (lit< tt)) ∙ get_or-set_other l₂ (k + 2) j 0 0 (f 2 (lit< tt)) ∙ get_or-set_other l₁ (k + 1) j 0 0 (f 1 (lit< tt))
      ∙ get_or-set_other l k j 0 0 (λ e. f 0 (lit< tt) (omega arith))

-- a removal takes one from the total
pub total-less : (P n : ℕ) (D E : List ℕ) (c p : ℕ) → c < n → p < P → Less (possible D) (possible E) c p → total P n D ≡ suc (total P n E)
unfolding total
total-less P n D E c p hc hp l =
    omega (
      arith,
      sum-at n (λ m. sum_to P (λ r. possible D m r)) (λ m. sum_to P (λ r. possible E m r)) c hc
          (λ m _ z. sum-ext P (λ r. possible D m r) (λ r. possible E m r) (λ r _. sym (l.rest m r (λ e _. z e)))),
      sum-at P (λ r. possible D c r) (λ r. possible E c r) p hp (λ r _ z. sym (l.rest c r (λ _ e. z e))),
      l.was,
      l.gone,
    )

-- ---- a step keeps a state safe

module _ (P n M : ℕ) {X : Type 0} where
  -- room may be left over
  pub safe_more : (M' : ℕ) → M ≤ M' → (s : State X) → Safe P n M s → Safe P n M' s
  safe_more M' h s S = record { sized = S.sized; fit = S.fit; inside = S.inside; room = omega (arith, S.room); dead = S.dead; told = S.told }

  module _ (s : State X) (u : Removal) (us : List Removal) (e : s.pending ≡ u ∷ us) where
    -- a removal that is pending is of the grid
    pub pending-inside : Safe P n M s → (u.cell < n) × (u.pattern < P)
    pending-inside S = let i = subst (λ (l : List Removal). Inside P n l) e S.inside in (i.0, i.1)

    -- popped, it leaves less to do
    pub safe-popped : Safe P n (suc M) s → Safe P n M (popped us s)
    safe-popped S =
        record {
          sized = S.sized;
          fit = S.fit;
          inside = (subst (λ (l : List Removal). Inside P n l) e S.inside).2;
          room = omega (arith, S.room, ap length e);
          dead = S.dead;
          told = S.told;
        }

  -- a pattern with supports is possible
  pub counted-possible : (s : State X) → Safe P n M s → (c q d : ℕ) → c < n → q < P → d < 4 → 0 < get_or s.counts (place P c q d) 0
      → possible s.domains c q ≡ 1
  counted-possible s S c q d hc hq hd h =
      elim (ℕ_discrete (possible s.domains c q) 0) [
        | yes z ↦ absurd (omega (arith, S.dead c q d hc hq hd z))
        | no z ↦ omega (arith, bit-lt (get_or s.domains c 0) q)
      ]

  -- where a pattern is possible there is room for its removal
  pub room-left : (s : State X) → Safe P n M s → (c p : ℕ) → c < n → p < P → possible s.domains c p ≡ 1 → length s.pending < M
  room-left s S c p hc hp h =
      omega (arith, S.room, total-less P n s.domains (removed s.domains c p) c p hc hp (removed-less s.domains c p h))

  module _ (keep : Removal → List ℕ → X → X) where
    -- a possible pattern goes
    pub safe-remove : (u : Removal) (s : State X) → u.cell < n → u.pattern < P → possible s.domains u.cell u.pattern ≡ 1
        → Safe P n M s → Safe P n M (remove P keep u s)
    unfolding remove
    safe-remove u s hc hp a S =
        record {
          sized = simp length-set S.sized;
          fit = fit-removed S.fit u.cell u.pattern;
          inside = (hc, hp, S.inside);
          room = omega (arith, S.room, total-less P n s.domains (removed s.domains u.cell u.pattern) u.cell u.pattern hc hp l);
          dead = λ c q d hc' hq hd z.
              elim (ℕ_discrete (c * P + q) (u.cell * P + u.pattern)) [
                | yes e ↦ four_cleared_in s.counts (place P u.cell u.pattern 0) (place P c q d) d hd (omega arith)
                | no e ↦
                    four_cleared-out s.counts (place P u.cell u.pattern 0) (place P c q d) (λ d' h z'. e (omega arith))
                    ∙ S.dead c q d hc' hq hd
                    (sym (l.rest c q (λ e₁ e₂. e (ap (λ (x : ℕ). x * P + q) e₁ ∙ ap (λ (x : ℕ). u.cell * P + x) e₂))) ∙ z)
              ];
          told =
              ap (λ (b : Bool). b || eqb (without (get_or s.domains u.cell 0) u.pattern) 0) S.told
              ∙ emptied-removed s.domains u.cell u.pattern (omega (arith, S.fit.sized));
        }
      where
        l : Less (possible s.domains) (possible (removed s.domains u.cell u.pattern)) u.cell u.pattern
        l = removed-less s.domains u.cell u.pattern a

    -- one support of `b` is taken
    pub safe-decrement_at : (c d q b : ℕ) (s : State X) → c < n → d < 4 → q < P → get_or s.counts (place P c q d) 0 ≡ b
        → Safe P n M s → Safe P n M (decrement_at P keep c d q b s)
    unfolding decrement_at
    safe-decrement_at c d q zero s hc hd hq e S = S
    safe-decrement_at c d q (suc zero) s hc hd hq e S = safe-remove (removal c q) s hc hq (counted-possible s S c q d hc hq hd (omega arith)) S
    safe-decrement_at c d q (suc (suc b)) s hc hd hq e S =
        record {
          sized = simp length-set S.sized;
          fit = S.fit;
          inside = S.inside;
          room = S.room;
          dead = λ c' q' d' hc' hq' hd' z.
              elim (ℕ_discrete (place P c' q' d') (place P c q d)) [
                | yes e' ↦ absurd (omega (arith, S.dead c' q' d' hc' hq' hd' z, ap (λ (x : ℕ). get_or s.counts x 0) e'))
                | no e' ↦ get_or-set_other s.counts (place P c q d) (place P c' q' d') (suc b) 0 e' ∙ S.dead c' q' d' hc' hq' hd' z
              ];
          told = S.told;
        }

    -- one support is taken
    pub safe-decrement : (c d q : ℕ) (s : State X) → c < n → d < 4 → q < P → Safe P n M s → Safe P n M (decrement P keep c d q s)
    unfolding decrement
    safe-decrement c d q s hc hd hq S = safe-decrement_at c d q (get_or s.counts (place P c q d) 0) s hc hd hq refl S

    -- one support is taken from each pattern of a list
    pub safe-decrements : (c d : ℕ) (qs : List ℕ) (s : State X) → c < n → d < 4 → AllBelow P qs → Safe P n M s → Safe P n M (decrements P keep c d qs s)
    unfolding decrements
    safe-decrements c d [] s hc hd a S = S
    safe-decrements c d (q ∷ qs) s hc hd a S = safe-decrements c d qs (decrement P keep c d q s) hc hd a.1 (safe-decrement c d q s hc hd a.0 S)

    -- the same at a neighbour, where there is one
    pub safe-toward : (o : Option ℕ) (d : ℕ) (qs : List ℕ) (s : State X) → ((c : ℕ) → o ≡ Some c → c < n) → d < 4 → AllBelow P qs
        → Safe P n M s → Safe P n M (toward P keep o d qs s)
    unfolding toward
    safe-toward None d qs s h hd a S = S
    safe-toward (Some c) d qs s h hd a S = safe-decrements c d qs s (h c refl) hd a S

    safe-forbid_at : (b : ℕ) (u : Removal) (s : State X) → u.cell < n → u.pattern < P → possible s.domains u.cell u.pattern ≡ b
        → Safe P n M s → Safe P n M (forbid_at P keep b u s)
    unfolding forbid_at
    safe-forbid_at zero u s hc hp e S = S
    safe-forbid_at (suc b) u s hc hp e S = safe-remove u s hc hp (omega (arith, bit-lt (get_or s.domains u.cell 0) u.pattern)) S

    -- a removal that is asked for is done or let be
    pub safe-forbid : (u : Removal) (s : State X) → u.cell < n → u.pattern < P → Safe P n M s → Safe P n M (forbid P keep u s)
    unfolding forbid
    safe-forbid u s hc hp S = safe-forbid_at (possible s.domains u.cell u.pattern) u s hc hp refl S

    -- removals that are asked for, in order
    pub safe-forbids : (us : List Removal) (s : State X) → Inside P n us → Safe P n M s → Safe P n M (forbids P keep us s)
    unfolding forbids
    safe-forbids [] s i S = S
    safe-forbids (u ∷ us) s i S = safe-forbids us (forbid P keep u s) i.2 (safe-forbid u s i.0 i.1 S)

module _ (t : Table) (g : Grid) (A : Accepted t) {X : Type 0} (keep : Removal → List ℕ → X → X) where
  -- a removal spreads in one direction
  pub safe-spread_in : (M : ℕ) (u : Removal) (d : ℕ) (s : State X) → u.cell < cells g → u.pattern < t.count → d < 4
      → Safe t.count (cells g) M s → Safe t.count (cells g) M (spread_in t g keep u d s)
  unfolding spread_in
  safe-spread_in M u d s hc hp hd S =
      safe-toward t.count (cells g) M keep (neighbour g u.cell d) d (list_of t u.pattern d) s (λ c. neighbour-inside g u.cell d c hc hd) hd
      (A.listed.below u.pattern d hp hd) S

  -- a removal spreads in all four
  pub safe-spread : (M : ℕ) (u : Removal) (s : State X) → u.cell < cells g → u.pattern < t.count
      → Safe t.count (cells g) M s → Safe t.count (cells g) M (spread t g keep u s)
  unfolding spread
  safe-spread M u s hc hp S =
      safe-spread_in M u 3 _ hc hp (lit< tt)
      (safe-spread_in M u 2 _ hc hp (lit< tt) (safe-spread_in M u 1 _ hc hp (lit< tt) (safe-spread_in M u 0 s hc hp (lit< tt) S)))

  module _ (s : State X) (u : Removal) (us : List Removal) (e : s.pending ≡ u ∷ us) where
    -- a turn of the work list: the last removal is popped and spreads
    pub safe-turn : (M : ℕ) → Safe t.count (cells g) (suc M) s → Safe t.count (cells g) M (spread t g keep u (popped us s))
    safe-turn M S =
        let (hc, hp) = pending-inside t.count (cells g) (suc M) s u us e S in
        safe-spread M u (popped us s) hc hp (safe-popped t.count (cells g) M s u us e S)

    -- it leaves fewer removals to come
    pub turn-less : (M : ℕ) → Safe t.count (cells g) M s
        → length (spread t g keep u (popped us s)).pending + total t.count (cells g) (spread t g keep u (popped us s)).domains
        < length s.pending + total t.count (cells g) s.domains
    turn-less M S = omega (arith, (safe-turn W tight).room, ap length e)
      where
        W : ℕ
        W = length us + total t.count (cells g) s.domains

        tight : Safe t.count (cells g) (suc W) s
        tight = record { sized = S.sized; fit = S.fit; inside = S.inside; room = omega (arith, ap length e); dead = S.dead; told = S.told }

  safe-run : (M f : ℕ) (counts domains : List ℕ) (l : List Removal) (empty : Bool) (x : X)
      → Safe t.count (cells g) M (state counts domains l empty x) → Safe t.count (cells g) M (propagate t g keep f (state counts domains l empty x))
  unfolding propagate
  safe-run M zero counts domains l empty x S = S
  safe-run M (suc f) counts domains [] empty x S = S
  safe-run M (suc f) counts domains (u ∷ us) true x S = S
  safe-run zero (suc f) counts domains (u ∷ us) false x S = absurd (omega (arith, S.room))
  safe-run (suc M) (suc f) counts domains (u ∷ us) false x S =
      let s = spread t g keep u (state counts domains us false x) in
      safe_more t.count (cells g) M (suc M) (omega arith) _
      (safe-run M f s.counts s.domains s.pending s.empty s.beside (safe-turn (state counts domains (u ∷ us) false x) u us refl M S))

  -- the whole work list
  pub safe-propagate : (M f : ℕ) (s : State X) → Safe t.count (cells g) M s → Safe t.count (cells g) M (propagate t g keep f s)
  safe-propagate M f s S = safe-run M f s.counts s.domains s.pending s.empty s.beside S

  -- ---- fuel

  -- as much as there is room for is enough
  enough : (M f : ℕ) → M ≤ f → (counts domains : List ℕ) (l : List Removal) (empty : Bool) (x : X)
      → Safe t.count (cells g) M (state counts domains l empty x)
      → propagate t g keep f (state counts domains l empty x) ≡ propagate t g keep M (state counts domains l empty x)
  unfolding propagate
  enough zero zero h counts domains l empty x S = refl
  enough zero (suc f) h counts domains [] empty x S = refl
  enough zero (suc f) h counts domains (u ∷ us) empty x S = absurd (omega (arith, S.room))
  enough (suc M) zero h counts domains l empty x S = absurd (omega arith)
  enough (suc M) (suc f) h counts domains [] empty x S = refl
  enough (suc M) (suc f) h counts domains (u ∷ us) true x S = refl
  enough (suc M) (suc f) h counts domains (u ∷ us) false x S =
      let s = spread t g keep u (state counts domains us false x) in
      enough M f (omega arith) s.counts s.domains s.pending s.empty s.beside (safe-turn (state counts domains (u ∷ us) false x) u us refl M S)

  -- any two fuels that are enough lead to the same end
  pub propagate-fuel : (M f f' : ℕ) → M ≤ f → M ≤ f' → (s : State X) → Safe t.count (cells g) M s → propagate t g keep f s ≡ propagate t g keep f' s
  propagate-fuel M f f' h h' s S =
      enough M f h s.counts s.domains s.pending s.empty s.beside S
      ∙ sym (enough M f' h' s.counts s.domains s.pending s.empty s.beside S)

  none_pending : (f : ℕ) (counts domains : List ℕ) (empty : Bool) (x : X)
      → propagate t g keep f (state counts domains [] empty x) ≡ state counts domains [] empty x
  unfolding propagate
  none_pending zero counts domains empty x = refl
  none_pending (suc f) counts domains empty x = refl

  one-empty : (f : ℕ) (counts domains : List ℕ) (l : List Removal) (x : X) → propagate t g keep f (state counts domains l true x) ≡ state counts domains l true x
  unfolding propagate
  one-empty zero counts domains l x = refl
  one-empty (suc f) counts domains [] x = refl
  one-empty (suc f) counts domains (u ∷ us) x = refl

  one-turn : (M f : ℕ) → M ≤ f → (counts domains : List ℕ) (u : Removal) (us : List Removal) (x : X)
      → Safe t.count (cells g) M (state counts domains (u ∷ us) false x)
      → propagate t g keep f (state counts domains (u ∷ us) false x) ≡ propagate t g keep f (spread t g keep u (state counts domains us false x))
  unfolding propagate
  one-turn zero f h counts domains u us x S = absurd (omega (arith, S.room))
  one-turn (suc M) zero h counts domains u us x S = absurd (omega arith)
  one-turn (suc M) (suc f) h counts domains u us x S =
      propagate-fuel M f (suc f) (omega arith) (omega arith) (spread t g keep u (state counts domains us false x)) (safe-turn (state counts domains (u ∷ us) false x) u us refl M S)

  module _ (f : ℕ) (s : State X) where
    -- where nothing is pending it has ended
    pub propagate_none : s.pending ≡ [] → propagate t g keep f s ≡ s
    propagate_none e =
        subst (λ (l : List Removal). propagate t g keep f (popped l s) ≡ popped l s) (sym e)
        (none_pending f s.counts s.domains s.empty s.beside)

    -- where a cell is empty it has ended
    pub propagate-empty : s.empty ≡ true → propagate t g keep f s ≡ s
    propagate-empty e =
        subst
        (λ (b : Bool). propagate t g keep f (state s.counts s.domains s.pending b s.beside) ≡ state s.counts s.domains s.pending b s.beside)
        (sym e) (one-empty f s.counts s.domains s.pending s.beside)

    -- a turn leads to the same end
    pub propagate-step : (M : ℕ) → M ≤ f → Safe t.count (cells g) M s → (u : Removal) (us : List Removal) → s.pending ≡ u ∷ us → s.empty ≡ false
        → propagate t g keep f s ≡ propagate t g keep f (spread t g keep u (popped us s))
    propagate-step M h S u us e z =
        subst₂
        (λ (l : List Removal) (b : Bool). Safe t.count (cells g) M (state s.counts s.domains l b s.beside)
        → propagate t g keep f (state s.counts s.domains l b s.beside)
        ≡ propagate t g keep f (spread t g keep u (state s.counts s.domains us b s.beside)))
        (sym e) (sym z) (one-turn M f h s.counts s.domains u us s.beside) S
