-- Every state of a run: it is what propagation leaves of full domains less all that was asked to go so far, and while no cell is empty it is ready
-- for more. Main property: every propagation inside a run leaves the greatest consistent subset of what it started from.
-- Follows docs/RULES.md, "Run" and "Propagation". Assumes nothing.
use mathlib.Core.Bool.{Bool, true, false, cond}
use mathlib.Core.List.{List, [], ◌∷◌, ◌++◌}
use mathlib.Core.Path.{◌≡◌, refl, sym, subst}
use Prim.Native.Nat.{ℕ, ◌<◌}
use native.Mathlib.Omega.{arith}
use lib.Dec.{eqb}
use Rattle.adjacency.specs.Accepted.{Accepted}
use Rattle.grid.specs.Grid.{cells}
use Rattle.consistency.specs.Domains.{filled, Fit}
use Rattle.consistency.specs.Worklist.{Removal, State, forbids}
use Rattle.consistency.specs.Start.{others}
use Rattle.consistency.specs.Parts.{removed_all}
use Rattle.consistency.specs.Safe.{Inside}
use Rattle.notes.specs.Beside.{Beside, kept, unmarked, lessened}
use Rattle.forbids.specs.declared.Forbid.{Forbid}
use Rattle.course.specs.Run.{Given, begun, reduced_by, asked, laid, laid_all, first_beside, turn, Turn}
use Rattle.forbids.specs.Forbids.{Placed}
use Rattle.course.specs.Course.{Lawful, full_less, wanted, turned_off, Reached, forbade, chose, removals}
use Rattle.consistency.proofs.DomainLaws.{fit-filled}
use Rattle.consistency.proofs.RemovalLaws.{inside-append, others-inside}
use Rattle.consistency.proofs.RemovedAllLaws.{fit-removed_all, removed_all-append, forbids-removed_all}
use Rattle.consistency.proofs.Settled.{Ready, Settled, settled}
use Rattle.consistency.proofs.SettledLaws.{ready-beside}
use Rattle.consistency.proofs.StartLaws.{start-settled, forbids-ready}
use Rattle.consistency.proofs.Parts.{settled-stays, settled-after}
use Rattle.course.proofs.TurnLaws.{turn_on}

-- ---- what is asked to go is of the grid

pub asked-inside : (P n : ℕ) (f : Forbid) → f.cell < n → f.pattern < P → Inside P n (asked P f)
unfolding asked
asked-inside P n f hc hp = go (eqb f.keep 0)
  where
    go : (b : Bool) → Inside P n (cond b (record { cell = f.cell; pattern = f.pattern } ∷ []) (others P f.cell f.pattern))
    go true = (hc, hp, tt)
    go false = others-inside P n f.cell f.pattern hc

pub wanted-inside : (P n : ℕ) (fs : List Forbid) → Placed P n fs → Inside P n (wanted P fs)
unfolding wanted
wanted-inside P n [] h = tt
wanted-inside P n (f ∷ fs) h = inside-append P n (asked P f) (wanted P fs) (asked-inside P n f h.0 h.1) (wanted-inside P n fs h.2)

module _ (i : Given) (A : Accepted i.table) where
  -- ---- one propagation

  -- from a state that is ready, a propagation leaves the greatest consistent subset of what it started from
  pub reduced_by-settled : (us : List Removal) (s : State Beside) → Inside i.table.count (cells i.grid) us → Ready i.table i.grid s
      → Settled i.table i.grid (removed_all us s.domains) (reduced_by i us s)
  unfolding reduced_by
  reduced_by-settled us s h R =
      let r = forbids i.table.count (lessened i.weights) us s in
      subst (λ (D : List ℕ). Settled i.table i.grid D (reduced_by i us s)) (forbids-removed_all i.table.count (lessened i.weights) us s)
      (settled i.table i.grid A (kept i.weights i.noise (cells i.grid)) _
      (ready-beside r (unmarked (cells i.grid) r.beside) i.table i.grid (forbids-ready i.table i.grid A (lessened i.weights) us s h R)))

  -- ---- the start and the forbids

  -- full domains are where their propagation ends
  pub begun-settled : Settled i.table i.grid (filled i.table.count (cells i.grid)) (begun i)
  unfolding begun
  begun-settled = start-settled i.table i.grid A (first_beside (cells i.grid) i.weights)

  -- forbids, each propagated before the next, settle what all of them leave
  pub laid_all-settled : (fs : List Forbid) (D : List ℕ) (s : State Beside) → Placed i.table.count (cells i.grid) fs
      → Fit i.table.count (cells i.grid) D → Settled i.table i.grid D s
      → Settled i.table i.grid (removed_all (wanted i.table.count fs) D) (laid_all i fs s)
  unfolding laid_all laid wanted removed_all
  laid_all-settled [] D s h F S = S
  laid_all-settled (f ∷ fs) D s h F S =
      either s.empty refl
      (λ e.
      laid_all-settled fs (removed_all us D) (laid i f s) h.2 (fit-removed_all us F)
      (settled-after i.table i.grid A us D s (laid i f s) S e (reduced_by-settled us s (asked-inside _ _ f h.0 h.1) (S.ready e))))
    where
      us : List Removal
      us = asked i.table.count f

      rest : List Removal
      rest = wanted i.table.count fs

      either : (b : Bool) → s.empty ≡ b → (s.empty ≡ false → Settled i.table i.grid (removed_all rest (removed_all us D)) (laid_all i fs (laid i f s)))
          → Settled i.table i.grid (removed_all (us ++ rest) D) (cond b s (laid_all i fs (laid i f s)))
      either true e k = settled-stays i.table i.grid A (us ++ rest) D s F S e
      either false e k = subst (λ (E : List ℕ). Settled i.table i.grid E (laid_all i fs (laid i f s))) (sym (removed_all-append us rest D)) (k e)

-- ---- every state

-- a state is what propagation leaves of full domains less all that was asked to go
pub record Stands (i : Given) (asks : List Removal) (s : State Beside) : Type 0 where
  pub inside : Inside i.table.count (cells i.grid) asks
  pub settled : Settled i.table i.grid (full_less i asks) s

module _ (i : Given) (fs : List Forbid) (L : Lawful i fs) where
  -- after the forbids it is that of all that they ask
  pub forbade-settled : Settled i.table i.grid (full_less i (wanted i.table.count fs)) (laid_all i fs (begun i))
  forbade-settled = laid_all-settled i L.accepted fs _ (begun i) L.placed (fit-filled _ _) (begun-settled i L.accepted)

  -- more removals, propagated
  stands_more : (us vs : List Removal) (s : State Beside) → Inside i.table.count (cells i.grid) us → s.empty ≡ false → Stands i vs s
      → Stands i (vs ++ us) (reduced_by i us s)
  stands_more us vs s h e S =
      record {
        inside = inside-append _ _ vs us S.inside h;
        settled =
            rw (removed_all-append vs us)
            (settled-after i.table i.grid L.accepted us _ s (reduced_by i us s) S.settled e (reduced_by-settled i L.accepted us s h (S.settled.ready e)));
      }

  stands-forbade : Stands i (wanted i.table.count fs) (laid_all i fs (begun i))
  stands-forbade = record { inside = wanted-inside _ _ fs L.placed; settled = forbade-settled }

  stands-chose : (words : List ℕ) (used more : ℕ) (vs : List Removal) (s s' : State Beside) → turn i words used s ≡ Turn.on more s' → Stands i vs s
      → Stands i (vs ++ turned_off i words used s) s'
  stands-chose words used more vs s s' e S =
      let c = turn_on i words used s e in
      rw (c.made, c.asks)
      (stands_more (others i.table.count c.cell c.pattern) vs s (others-inside _ _ _ _ (omega (arith, c.inside, S.settled.safe.fit.sized))) c.whole S)

  -- every state that a run reaches is what propagation leaves of full domains less all that was asked to go until then
  pub reached-stands : {words : List ℕ} {k used : ℕ} {s : State Beside} (r : Reached i fs words k used s) → Stands i (removals i fs words r) s
  unfolding removals
  reached-stands forbade = stands-forbade
  reached-stands {words} (chose {used = used} {more = more} {s = s} {s' = s'} r e) =
      stands-chose words used more (removals i fs words r) s s' e (reached-stands r)

  module _ {words : List ℕ} {k used : ℕ} {s : State Beside} (r : Reached i fs words k used s) (e : s.empty ≡ false) where
    -- while no cell is empty it is ready for more
    pub reached-ready : Ready i.table i.grid s
    reached-ready = (reached-stands r).settled.ready e

    -- every propagation inside a run leaves the greatest consistent subset of what it started from, or a contradiction exactly where that has an empty cell
    pub run_propagates : (us : List Removal) → Inside i.table.count (cells i.grid) us
        → Settled i.table i.grid (removed_all us s.domains) (reduced_by i us s)
    run_propagates us h = reduced_by-settled i L.accepted us s h reached-ready
