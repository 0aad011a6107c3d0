-- The theorem of propagation: from any state that is ready, the work list leaves the greatest consistent subset of what was possible,
-- or a contradiction exactly where that has an empty cell. Follows docs/RULES.md, "Propagation". Assumes nothing.
use mathlib.Core.Bool.{Bool, true, false, true≢false}
use mathlib.Core.List.{List, [], ◌∷◌}
use mathlib.Core.Path.{◌≡◌, refl, sym, ap, subst, ◌∙◌}
use Prim.Native.Nat.{ℕ, zero, suc, ◌*◌, ◌≤◌}
use native.Mathlib.Nat.{le_refl}
use native.Mathlib.Omega.{arith}
use lib.ListN.{get_or}
use Rattle.adjacency.specs.Tables.{Table}
use Rattle.adjacency.specs.Accepted.{Accepted}
use Rattle.grid.specs.Grid.{Grid, cells}
use Rattle.consistency.specs.Domains.{possible, emptied}
use Rattle.consistency.specs.Consistent.{Greatest}
use Rattle.consistency.specs.Worklist.{Removal, State, state, spread, popped, propagate, propagated}
use Rattle.consistency.specs.Safe.{Safe}
use Rattle.consistency.proofs.DomainLaws.{sub-le, le-sub, emptied-sub}
use Rattle.consistency.proofs.Counting.{counted_by}
use Rattle.consistency.proofs.Owed.{net_of, Due, nothing-due, due_of, owed, due_of_lem}
use Rattle.consistency.proofs.Keep.{safe_more, safe-popped, safe-propagate}
use Rattle.consistency.proofs.Steps.{Exact, Kept, Supported, kept-spread}
use Rattle.consistency.proofs.ConsistentLaws.{consistent_supported, supported_consistent}

-- ready to be propagated: safe, with room for each removal, and with exact counts
abbrev pub Ready : (t : Table) (g : Grid) {X : Type 0} → State X → Type 0
Ready t g s = Exact t g (cells g * t.count) s nothing-due

-- what a propagation from the domains D came to: a contradiction exactly where their greatest consistent subset has an empty cell,
-- and otherwise that subset, with nothing pending, ready for more
pub record Settled (t : Table) (g : Grid) {X : Type 0} (D : List ℕ) (s : State X) : Type 0 where
  pub rest : List ℕ
  pub greatest : Greatest t g D rest
  pub contradiction : s.empty ≡ emptied rest
  pub left : s.empty ≡ false → s.domains ≡ rest
  pub ended : s.empty ≡ false → s.pending ≡ []
  pub ready : s.empty ≡ false → Ready t g s
  pub safe : Safe t.count (cells g) (cells g * t.count) s

module _ (t : Table) (g : Grid) (A : Accepted t) {X : Type 0} (keep : Removal → List ℕ → X → X) where
  -- ---- a turn

  -- a removal that is popped is to take what its pattern gave
  exact-popped : (M : ℕ) (counts domains : List ℕ) (u : Removal) (us : List Removal) (empty : Bool) (x : X)
      → Exact t g (suc M) (state counts domains (u ∷ us) empty x) nothing-due → Exact t g M (state counts domains us empty x) (due_of t g u nothing-due)
  unfolding owed
  exact-popped M counts domains u us empty x E =
      record {
        safe = safe-popped t.count (cells g) M (state counts domains (u ∷ us) empty x) u us refl E.safe;
        counted =
            counted_by (net_of t g) (possible domains) (λ k. get_or counts k 0) _ _
            (λ n q d hn hq hd. omega (arith, due_of_lem t g A u E.safe.inside.0 E.safe.inside.1 n q hn hq nothing-due d hd)) E.counted;
      }

  kept-turn : (H D : ℕ → ℕ → ℕ) → Supported t g H → (M : ℕ) (counts domains : List ℕ) (u : Removal) (us : List Removal) (empty : Bool) (x : X)
      → Kept t g H D (suc M) (state counts domains (u ∷ us) empty x) nothing-due
      → Kept t g H D M (spread t g keep u (state counts domains us empty x)) nothing-due
  kept-turn H D supported M counts domains u us empty x K =
      kept-spread t g keep M H D supported A u K.exact.safe.inside.0 K.exact.safe.inside.1 _ nothing-due
      (record { exact = exact-popped M counts domains u us empty x K.exact; over = K.over; under = K.under })

  -- ---- the work list that does not stop at an empty cell

  unfoldable drained : ℕ → State X → State X
  drained zero s = s
  drained (suc fuel) s = elim s.pending [ [] ↦ s | u ∷ us ↦ drained fuel (spread t g keep u (popped us s)) ]

  -- it ends with nothing pending
  record Drained (H D : ℕ → ℕ → ℕ) (M : ℕ) (s : State X) : Type 0 where
    kept : Kept t g H D M s nothing-due
    ended : s.pending ≡ []

  module _ (H D : ℕ → ℕ → ℕ) (supported : Supported t g H) where
    drains : (M fuel : ℕ) → M ≤ fuel → (counts domains : List ℕ) (l : List Removal) (empty : Bool) (x : X)
        → Kept t g H D M (state counts domains l empty x) nothing-due → Drained H D M (drained fuel (state counts domains l empty x))
    unfolding drained
    drains M zero h counts domains [] empty x K = record { kept = K; ended = refl }
    drains M (suc fuel) h counts domains [] empty x K = record { kept = K; ended = refl }
    drains M zero h counts domains (u ∷ us) empty x K = absurd (omega (arith, K.exact.safe.room))
    drains zero (suc fuel) h counts domains (u ∷ us) empty x K = absurd (omega (arith, K.exact.safe.room))
    drains (suc M) (suc fuel) h counts domains (u ∷ us) empty x K =
        let s = spread t g keep u (state counts domains us empty x) in
        let d = drains M fuel (omega arith) s.counts s.domains s.pending s.empty s.beside (kept-turn H D supported M counts domains u us empty x K) in
        let k = d.kept in
        record {
          kept =
              record {
                exact = record { safe = safe_more t.count (cells g) M (suc M) (omega arith) _ k.exact.safe; counted = k.exact.counted };
                over = k.over;
                under = k.under;
              };
          ended = d.ended;
        }

  kept_by : (H : ℕ → ℕ → ℕ) (M : ℕ) (s : State X) (rest : Due) → ((n q : ℕ) → H n q ≤ possible s.domains n q)
      → Exact t g M s rest → Kept t g H (possible s.domains) M s rest
  kept_by H M s rest h E = record { exact = E; over = h; under = λ n q. le_refl _ }

  abbrev nothing : ℕ → ℕ → ℕ
  nothing n q = 0

  nothing_supported : Supported t g nothing
  nothing_supported n q d hn hq hd e = absurd (omega arith)

  drains-from : (M fuel : ℕ) → M ≤ fuel → (s : State X) → Exact t g M s nothing-due → Drained nothing (possible s.domains) M (drained fuel s)
  drains-from M fuel h s E = drains nothing (possible s.domains) nothing_supported M fuel h s.counts s.domains s.pending s.empty s.beside (kept_by nothing M s nothing-due (λ n q. omega arith) E)

  -- ---- stopping at an empty cell changes nothing but what is left there

  record Stopped (s' z : State X) : Type 0 where
    alike : s'.empty ≡ false → s' ≡ z
    empty : s'.empty ≡ emptied z.domains

  stops : (M fuel : ℕ) → M ≤ fuel → (counts domains : List ℕ) (l : List Removal) (empty : Bool) (x : X)
      → Exact t g M (state counts domains l empty x) nothing-due
      → Stopped (propagate t g keep fuel (state counts domains l empty x)) (drained fuel (state counts domains l empty x))
  unfolding propagate drained
  stops M zero h counts domains l empty x E = record { alike = λ _. refl; empty = E.safe.told }
  stops M (suc fuel) h counts domains [] empty x E = record { alike = λ _. refl; empty = E.safe.told }
  stops zero (suc fuel) h counts domains (u ∷ us) empty x E = absurd (omega (arith, E.safe.room))
  stops (suc M) (suc fuel) h counts domains (u ∷ us) true x E =
      let z = drained (suc fuel) (state counts domains (u ∷ us) true x) in
      let d = (drains-from (suc M) (suc fuel) h _ E).kept in
      record {
        alike = λ e. absurd (true≢false e);
        empty = sym (emptied-sub d.exact.safe.fit E.safe.fit (le-sub z.domains domains d.under) (sym E.safe.told));
      }
  stops (suc M) (suc fuel) h counts domains (u ∷ us) false x E =
      let s = spread t g keep u (state counts domains us false x) in
      stops M fuel (omega arith) s.counts s.domains s.pending s.empty s.beside
      (kept-turn nothing _ nothing_supported M counts domains u us false x (kept_by nothing (suc M) _ nothing-due (λ n q. omega arith) E)).exact

  -- ---- the theorem

  owed_none : (l : List Removal) (n q d : ℕ) → l ≡ [] → owed t g l n q d ≡ 0
  unfolding owed
  owed_none l n q d e = ap (λ (x : List Removal). owed t g x n q d) e

  pub settled : (s : State X) → Ready t g s → Settled t g s.domains (propagated t g keep s)
  unfolding propagated
  settled s R =
      record {
        rest = z.domains;
        greatest =
            record {
              fit = d.kept.exact.safe.fit;
              consistent =
                  supported_consistent t g A z.domains d.kept.exact.safe.fit
                  (λ n q e hn hq he a.
                  omega (
                    arith,
                    d.kept.exact.counted.exact n q e hn hq he a,
                    d.kept.exact.counted.live n q e hn hq he a,
                    owed_none z.pending n q e d.ended,
                  ));
              below = le-sub z.domains s.domains d.kept.under;
              above = λ H F C l.
                  le-sub H z.domains
                  (drains (possible H) (possible s.domains) (consistent_supported t g A H F C) M M (le_refl M) s.counts s.domains s.pending s.empty s.beside
                  (kept_by (possible H) M s nothing-due (sub-le H s.domains l) R)
                  ).kept.over;
            };
        contradiction = stop.empty;
        left = λ e. ap (λ (y : State X). y.domains) (stop.alike e);
        ended = λ e. ap (λ (y : State X). y.pending) (stop.alike e) ∙ d.ended;
        ready = λ e. subst (λ (y : State X). Ready t g y) (sym (stop.alike e)) d.kept.exact;
        safe = safe-propagate t g A keep M M s R.safe;
      }
    where
      M : ℕ
      M = cells g * t.count

      z : State X
      z = drained M s

      d : Drained nothing (possible s.domains) M z
      d = drains-from M M (le_refl M) s R

      stop : Stopped (propagate t g keep M s) z
      stop = stops M M (le_refl M) s.counts s.domains s.pending s.empty s.beside R
