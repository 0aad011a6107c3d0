-- Every step of the work list keeps the counts exact and takes no pattern of a consistent subset. Assumes nothing.
use mathlib.Core.List.{List, [], ◌∷◌}
use mathlib.Core.Logic.{◌⊎◌, inl, inr, ⊎_elim}
use Rattle.std.specs.Prelude.{Option, None, Some}
use mathlib.Core.Path.{◌≡◌, refl, ap}
use Prim.Native.Nat.{ℕ, zero, suc, ◌+◌, ◌≤◌, ◌<◌}
use native.Mathlib.Decide.{ℕ_discrete}
use native.Mathlib.Omega.{arith}
use lib.Arith.{digits_lt}
use lib.Dec.{lit<}
use lib.ListN.{get_or, set}
use lib.Seq.{get_or-set_same, get_or-set_other}
use Rattle.adjacency.specs.Tables.{Table, list_of}
use Rattle.adjacency.specs.Accepted.{AllBelow, Accepted}
use Rattle.grid.specs.Grid.{Grid, cells, neighbour}
use Rattle.consistency.specs.Domains.{possible, removed}
use Rattle.consistency.specs.Worklist.{Removal, removal, State, place, four_cleared, remove, decrement_at, decrement, decrements, toward, spread_in, spread}
use Rattle.consistency.specs.Safe.{Safe}
use Rattle.loops.proofs.SumLaws.{same, same_no}
use Rattle.grid.proofs.GridLaws.{neighbour-inside}
use Rattle.consistency.proofs.Counting.{supports, Less, Counted, skip, spend, kill, doomed, place-ne}
use Rattle.consistency.proofs.Keep.{removed-less, four_cleared-out, counted-possible, safe-remove, safe-decrement_at}
use Rattle.consistency.proofs.Owed.{net_of, Due, due_in, due_to, due_toward, due_of, owed}

-- a state is safe and its counts are exact, where `rest` is still to be taken besides what is pending
pub record Exact (t : Table) (g : Grid) {X : Type 0} (M : ℕ) (s : State X) (rest : Due) : Type 0 where
  pub safe : Safe t.count (cells g) M s
  pub counted : Counted (net_of t g) (possible s.domains) (λ k. get_or s.counts k 0) (λ n q d. rest n q d + owed t g s.pending n q d)

-- besides, all of H is still possible, and nothing outside D
pub record Kept (t : Table) (g : Grid) {X : Type 0} (H D : ℕ → ℕ → ℕ) (M : ℕ) (s : State X) (rest : Due) : Type 0 where
  pub exact : Exact t g M s rest
  pub over : (n q : ℕ) → H n q ≤ possible s.domains n q
  pub under : (n q : ℕ) → possible s.domains n q ≤ D n q

-- what H has, has supports in H
abbrev pub Supported : Table → Grid → (ℕ → ℕ → ℕ) → Type 0
Supported t g H = (n q d : ℕ) → n < cells g → q < t.count → d < 4 → H n q ≡ 1 → 0 < supports (net_of t g) H n q d

module _ (t : Table) (g : Grid) {X : Type 0} (keep : Removal → List ℕ → X → X) (M : ℕ) where
  -- a possible pattern goes: what is still to be taken from itself is forgotten
  pub exact-remove : (s : State X) (rest rest' : Due) (u : Removal) → Exact t g M s rest → u.cell < cells g → u.pattern < t.count
      → possible s.domains u.cell u.pattern ≡ 1
      → ((n q d : ℕ) → q < t.count → d < 4 → (n ≡ u.cell → q ≡ u.pattern → ⊥) → rest n q d ≡ rest' n q d)
      → Exact t g M (remove t.count keep u s) rest'
  unfolding remove owed
  exact-remove s rest rest' u E hc hp a r =
      record {
        safe = safe-remove t.count (cells g) M keep u s hc hp a E.safe;
        counted =
            kill (net_of t g) (possible s.domains) (λ k. get_or s.counts k 0) _ (λ n q d. rest' n q d + owed t g (u ∷ s.pending) n q d) E.counted
            (possible (removed s.domains u.cell u.pattern)) (λ k. get_or (four_cleared s.counts (place t.count u.cell u.pattern 0)) k 0)
            u.cell u.pattern hp (removed-less s.domains u.cell u.pattern a)
            (λ j z. four_cleared-out s.counts (place t.count u.cell u.pattern 0) j (λ d hd e. z d hd (omega arith)))
            (λ n q d hq hd z. omega (arith, r n q d hq hd z));
      }

  module _ (H D : ℕ → ℕ → ℕ) where
    -- a possible pattern that H has not goes
    kept-remove : (s : State X) (rest rest' : Due) (u : Removal) → Kept t g H D M s rest → u.cell < cells g → u.pattern < t.count
        → possible s.domains u.cell u.pattern ≡ 1 → (H u.cell u.pattern ≡ 1 → ⊥)
        → ((n q d : ℕ) → q < t.count → d < 4 → (n ≡ u.cell → q ≡ u.pattern → ⊥) → rest n q d ≡ rest' n q d)
        → Kept t g H D M (remove t.count keep u s) rest'
    unfolding remove
    kept-remove s rest rest' u K hc hp a f r =
        record {
          exact = exact-remove s rest rest' u K.exact hc hp a r;
          over = λ n q.
              ⊎_elim
              (λ e. omega (arith, ap (λ (x : ℕ). H x q) e.0, ap (λ (x : ℕ). H u.cell x) e.1, K.over u.cell u.pattern))
              (λ e. omega (arith, K.over n q))
              (either n q);
          under = λ n q.
              ⊎_elim
              (λ e. omega (arith, ap (λ (x : ℕ). possible E x q) e.0, ap (λ (x : ℕ). possible E u.cell x) e.1, l.gone))
              (λ e. omega (arith, K.under n q))
              (either n q);
        }
      where
        E : List ℕ
        E = removed s.domains u.cell u.pattern

        l : Less (possible s.domains) (possible (removed s.domains u.cell u.pattern)) u.cell u.pattern
        l = removed-less s.domains u.cell u.pattern a

        either : (n q : ℕ) → ((n ≡ u.cell) × (q ≡ u.pattern)) ⊎ (possible E n q ≡ possible s.domains n q)
        either n q =
            elim (ℕ_discrete n u.cell) [
              | yes e₁ ↦ elim (ℕ_discrete q u.pattern) [ yes e₂ ↦ inl (e₁, e₂) | no e₂ ↦ inr (l.rest n q (λ _ z. e₂ z)) ]
              | no e₁ ↦ inr (l.rest n q (λ z _. e₁ z))
            ]

    module _ (supported : Supported t g H) where
      -- one support that is due is taken
      kept-decrement_at : (s : State X) (rest : Due) (n d q c : ℕ) → n < cells g → d < 4 → q < t.count → get_or s.counts (place t.count n q d) 0 ≡ c
          → Kept t g H D M s (λ n' q' d'. same (place t.count n' q' d') (place t.count n q d) + rest n' q' d')
          → Kept t g H D M (decrement_at t.count keep n d q c s) rest
      unfolding decrement_at
      kept-decrement_at s rest n d q zero hn hd hq e K =
          record {
            exact =
                record {
                  safe = K.exact.safe;
                  counted =
                      skip (net_of t g) (possible s.domains) (λ k. get_or s.counts k 0) _ (λ n' q' d'. rest n' q' d' + owed t g s.pending n' q' d')
                      K.exact.counted (place t.count n q d) (λ n' q' d'. omega arith) e;
                };
            over = K.over;
            under = K.under;
          }
      kept-decrement_at s rest n d q (suc zero) hn hd hq e K =
          kept-remove s _ rest (removal n q) K hn hq here
          (λ h.
          doomed (net_of t g) (possible s.domains) (λ k. get_or s.counts k 0) _ (λ n' q' d'. rest n' q' d' + owed t g s.pending n' q' d')
          K.exact.counted H n q d hn hq hd (λ n' q' d'. omega arith) e here K.over (supported n q d hn hq hd h))
          (λ n' q' d' hq' hd' z.
          omega (arith, same_no (place t.count n' q' d') (place t.count n q d) (place-ne t.count n' q' d' n q d hq' hq hd' hd z)))
        where
          here : possible s.domains n q ≡ 1
          here = counted-possible t.count (cells g) M s K.exact.safe n q d hn hq hd (omega arith)
      kept-decrement_at s rest n d q (suc (suc c)) hn hd hq e K =
          record {
            exact =
                record {
                  safe = safe-decrement_at t.count (cells g) M keep n d q (suc (suc c)) s hn hd hq e K.exact.safe;
                  counted =
                      spend (net_of t g) (possible s.domains) (λ k. get_or s.counts k 0) _ (λ n' q' d'. rest n' q' d' + owed t g s.pending n' q' d')
                      K.exact.counted (λ k. get_or (set s.counts (place t.count n q d) (suc c)) k 0) (place t.count n q d) c (λ n' q' d'. omega arith) e
                      (get_or-set_same s.counts (place t.count n q d) (suc c) 0 (rw K.exact.safe.sized (digits_lt (digits_lt hn hq) hd)))
                      (λ j z. get_or-set_other s.counts (place t.count n q d) j (suc c) 0 z);
                };
            over = K.over;
            under = K.under;
          }

      kept-decrement : (s : State X) (rest : Due) (n d q : ℕ) → n < cells g → d < 4 → q < t.count
          → Kept t g H D M s (λ n' q' d'. same (place t.count n' q' d') (place t.count n q d) + rest n' q' d')
          → Kept t g H D M (decrement t.count keep n d q s) rest
      unfolding decrement
      kept-decrement s rest n d q hn hd hq K = kept-decrement_at s rest n d q (get_or s.counts (place t.count n q d) 0) hn hd hq refl K

      kept-decrements : (s : State X) (rest : Due) (n d : ℕ) (qs : List ℕ) → n < cells g → d < 4 → AllBelow t.count qs
          → Kept t g H D M s (due_in t.count n d qs rest) → Kept t g H D M (decrements t.count keep n d qs s) rest
      unfolding decrements
      kept-decrements s rest n d [] hn hd a K = K
      kept-decrements s rest n d (q ∷ qs) hn hd a K =
          kept-decrements (decrement t.count keep n d q s) rest n d qs hn hd a.1 (kept-decrement s (due_in t.count n d qs rest) n d q hn hd a.0 K)

      kept-toward : (s : State X) (rest : Due) (o : Option ℕ) (d : ℕ) (qs : List ℕ) → ((n : ℕ) → o ≡ Some n → n < cells g) → d < 4 → AllBelow t.count qs
          → Kept t g H D M s (due_to t.count o d qs rest) → Kept t g H D M (toward t.count keep o d qs s) rest
      unfolding toward
      kept-toward s rest None d qs hn hd a K = K
      kept-toward s rest (Some n) d qs hn hd a K = kept-decrements s rest n d qs (hn n refl) hd a K

      module _ (A : Accepted t) (u : Removal) (hc : u.cell < cells g) (hp : u.pattern < t.count) where
        kept-spread_in : (d : ℕ) → d < 4 → (s : State X) (rest : Due) → Kept t g H D M s (due_toward t g u d rest) → Kept t g H D M (spread_in t g keep u d s) rest
        unfolding spread_in
        kept-spread_in d hd s rest K =
            kept-toward s rest (neighbour g u.cell d) d (list_of t u.pattern d) (λ n. neighbour-inside g u.cell d n hc hd) hd
            (A.listed.below u.pattern d hp hd) K

        -- a removal spreads: all that it is to take is taken
        pub kept-spread : (s : State X) (rest : Due) → Kept t g H D M s (due_of t g u rest) → Kept t g H D M (spread t g keep u s) rest
        unfolding spread
        kept-spread s rest K =
            kept-spread_in 3 (lit< tt) _ rest (kept-spread_in 2 (lit< tt) _ _ (kept-spread_in 1 (lit< tt) _ _ (kept-spread_in 0 (lit< tt) s _ K)))
