-- Removals that are asked for, each possible when its turn comes, leave the counts and what is pending as they do where the domains lack them already;
-- so given starting domains stand where forbidding what they lack leads. Follows docs/RULES.md, "Propagation". Assumes nothing.
use mathlib.Core.Bool.{Bool, true, false, cond}
use mathlib.Core.List.{List, [], ◌∷◌, ◌++◌}
use mathlib.Core.Path.{◌≡◌, refl, ap, subst, ◌∙◌}
use Prim.Native.Nat.{ℕ, zero, suc, ◌+◌, ◌*◌, ◌≤◌, ◌<◌}
use native.Mathlib.Omega.{arith}
use lib.ListN.{length}
use Rattle.words.specs.Words.{has}
use Rattle.adjacency.specs.Tables.{Table}
use Rattle.adjacency.specs.Accepted.{Accepted}
use Rattle.grid.specs.Grid.{Grid, cells}
use Rattle.consistency.specs.Domains.{possible, removed, filled, Fit, emptied}
use Rattle.consistency.specs.Worklist.{Removal, removal, State, state, remove, forbid_at, forbid, forbids}
use Rattle.consistency.specs.Start.{failing, missing, start}
use Rattle.consistency.specs.Parts.{removed_all}
use Rattle.consistency.specs.Withdrawn.{Work, work_of, withdraw, withdrawn, InTurn, start_work}
use Rattle.consistency.specs.Forget.{nothing}
use Rattle.consistency.specs.Safe.{Safe}
use Rattle.consistency.proofs.DomainLaws.{possible-filled, possible-removed_other}
use Rattle.consistency.proofs.RemovalLaws.{missing-inside, spared-failing}
use Rattle.consistency.proofs.RemovedAllLaws.{possible-removed_all, forbids-removed_all}
use Rattle.consistency.proofs.Settled.{Ready}
use Rattle.consistency.proofs.StartLaws.{start-ready, forbids-ready}
use Rattle.consistency.proofs.Given.{removed_all-missing}

-- ---- withdrawn

pub withdrawn-append : (P : ℕ) (us vs : List Removal) (m : Work) → withdrawn P (us ++ vs) m ≡ withdrawn P vs (withdrawn P us m)
unfolding withdrawn
withdrawn-append P [] vs m = refl
withdrawn-append P (u ∷ us) vs m = withdrawn-append P us vs (withdraw P u m)

pub length-withdrawn : (P : ℕ) (us : List Removal) (m : Work) → length (withdrawn P us m).pending ≡ length us + length m.pending
unfolding withdrawn withdraw
length-withdrawn P [] m = omega arith
length-withdrawn P (u ∷ us) m = omega (arith, length-withdrawn P us (withdraw P u m))

-- ---- each in its turn

turn-append : (us vs : List Removal) (D : List ℕ) → InTurn us D → InTurn vs (removed_all us D) → InTurn (us ++ vs) D
unfolding removed_all
turn-append [] vs D i j = j
turn-append (u ∷ us) vs D i j = (i.0, turn-append us vs (removed D u.cell u.pattern) i.1 j)

turn-failing : (test : ℕ → Bool) (n i c : ℕ) (D : List ℕ) → ((p : ℕ) → i ≤ p → p < i + n → possible D c p ≡ 1) → InTurn (failing test n i c) D
unfolding failing
turn-failing test zero i c D h = tt
turn-failing test (suc n) i c D h = go (test i) (turn-failing test n (suc i) c)
  where
    go : (b : Bool) → ((E : List ℕ) → ((p : ℕ) → suc i ≤ p → p < suc i + n → possible E c p ≡ 1) → InTurn (failing test n (suc i) c) E)
        → InTurn (cond b (failing test n (suc i) c) (removal c i ∷ failing test n (suc i) c)) D
    go true rest = rest D (λ p l k. h p (omega arith) (omega arith))
    go false rest = (
      h i (omega arith) (omega arith),
      rest (removed D c i) (λ p l k. possible-removed_other D c i c p (λ _ z. omega arith) ∙ h p (omega arith) (omega arith)),
    )

-- what domains lack, from domains that have all of it
turn-missing : (P c : ℕ) (D E : List ℕ) → ((m p : ℕ) → c ≤ m → m < c + length D → p < P → possible E m p ≡ 1) → InTurn (missing P c D) E
unfolding missing
turn-missing P c [] E h = tt
turn-missing P c (w ∷ D) E h =
    turn-append (failing (has w) P 0 c) (missing P (suc c) D) E (turn-failing (has w) P 0 c E (λ p _ k. h c p (omega arith) (omega arith) (omega arith)))
    (turn-missing P (suc c) D (removed_all (failing (has w) P 0 c) E)
    (λ m p l k a.
    (possible-removed_all (failing (has w) P 0 c) E m p).1
    ((spared-failing (has w) P 0 c m p).1 (λ e _ _. absurd (omega arith)), h m p (omega arith) (omega arith) a)))

-- ---- removals that are asked for

module _ (P : ℕ) {X : Type 0} (keep : Removal → List ℕ → X → X) where
  forbid-possible : (u : Removal) (s : State X) → possible s.domains u.cell u.pattern ≡ 1 → forbid P keep u s ≡ remove P keep u s
  unfolding forbid forbid_at
  forbid-possible u s e = ap (λ (b : ℕ). forbid_at P keep b u s) e

  -- those that are possible in turn are withdrawn
  forbids-withdrawn : (us : List Removal) (s : State X) → InTurn us s.domains
      → work_of (forbids P keep us s) ≡ withdrawn P us (work_of s)
  unfolding forbids remove withdrawn withdraw
  forbids-withdrawn [] s i = refl
  forbids-withdrawn (u ∷ us) s i =
      ap (λ (r : State X). work_of (forbids P keep us r)) (forbid-possible u s i.0) ∙ forbids-withdrawn us (remove P keep u s) i.1

-- ---- starting domains

module _ (t : Table) (g : Grid) (A : Accepted t) (D : List ℕ) (F : Fit t.count (cells g) D) where
  given-ready : Ready t g (forbids t.count nothing (missing t.count 0 D) (start t g tt))
  given-ready = forbids-ready t g A nothing (missing t.count 0 D) (start t g tt) (missing-inside t.count (cells g) 0 D (omega (arith, F.sized))) (start-ready t g A tt)

  -- where forbidding what the domains D lack leads, from full ones
  pub given-start : forbids t.count nothing (missing t.count 0 D) (start t g tt) ≡ state (start_work t (cells g) D).counts D (start_work t (cells g) D).pending (emptied D) tt
  unfolding start start_work
  given-start = λ i. state (laid i).counts (same i) (laid i).pending (told i) tt
    where
      s : State (Unit {0})
      s = forbids t.count nothing (missing t.count 0 D) (start t g tt)

      same : s.domains ≡ D
      same = forbids-removed_all t.count nothing (missing t.count 0 D) (start t g tt) ∙ removed_all-missing F

      laid : work_of s ≡ start_work t (cells g) D
      laid =
          forbids-withdrawn t.count nothing (missing t.count 0 D) (start t g tt)
          (turn-missing t.count 0 D (filled t.count (cells g)) (λ m p _ k a. possible-filled t.count (cells g) m p (omega (arith, F.sized)) a))

      told : s.empty ≡ emptied D
      told = given-ready.safe.told ∙ ap emptied same

  pub given-safe : Safe t.count (cells g) (cells g * t.count) (state (start_work t (cells g) D).counts D (start_work t (cells g) D).pending (emptied D) (tt {0}))
  given-safe = subst (λ (s : State (Unit {0})). Safe t.count (cells g) (cells g * t.count) s) given-start given-ready.safe
