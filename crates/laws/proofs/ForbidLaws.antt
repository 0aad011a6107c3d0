-- Forbids without choices: walked one by one from full domains, in any order, with repeats, and stopped at a contradiction, they end as all together:
-- with the greatest consistent subset of full domains less everything that they ask to go. A contradiction counts as every cell empty.
-- Follows docs/RULES.md, "Run". Assumes nothing.
use mathlib.Core.Bool.{true}
use mathlib.Core.List.Memᴰ
use mathlib.Core.List.{List, [], ◌∷◌, Memᴰ}
use mathlib.Core.Logic.{◌↔◌, ◌⊎◌, inl, inr}
use mathlib.Core.Path.{◌≡◌, refl, sym, ap, ◌∙◌, subst}
use Prim.Native.Nat.{ℕ, ◌+◌, ◌*◌, ◌<◌}
use native.Mathlib.Omega.{arith}
use lib.ListN.{replicate}
use lib.Pow.{pow_pos}
use borrow.Author.Tests.{eq-eqb, ne_eqb}
use Rattle.adjacency.specs.Accepted.{Accepted}
use Rattle.grid.specs.Grid.{cells}
use Rattle.consistency.specs.Domains.{possible, Fit, settled_as, emptied}
use Rattle.consistency.specs.Consistent.{Greatest}
use Rattle.consistency.specs.Worklist.{Removal, State, state, forbid_at, forbid, forbids, propagated}
use Rattle.consistency.specs.Start.{others, reduced}
use Rattle.consistency.specs.Parts.{removed_all, Spared, Alike}
use Rattle.consistency.specs.Safe.{Inside}
use Rattle.notes.specs.Beside.{Beside, kept, unmarked, lessened}
use Rattle.forbids.specs.declared.Forbid.{Forbid}
use Rattle.course.specs.Run.{Given, begun, reduced_by, asked, laid, laid_all, ended, turn, run_of}
use Rattle.course.specs.Course.{Lawful, full_less, wanted, Reached, forbade, Final}
use Rattle.forbids.specs.Forbids.{SameForbids}
use Rattle.words.proofs.BitLaws.{bit_not, bit_none, word-ext}
use Rattle.consistency.proofs.DomainLaws.{pattern-below, at-emptied, emptied-sub, fit-filled}
use Rattle.consistency.proofs.RemovalLaws.{spared-append, others-inside, spared-others}
use Rattle.consistency.proofs.RemovedAllLaws.{fit-removed_all, possible-removed_all, removed_all-alike}
use Rattle.consistency.proofs.Keep.{propagate_none}
use Rattle.consistency.proofs.Settled.{Ready, Settled}
use Rattle.consistency.proofs.SettledLaws.{settled_contradiction, settled-written, settled-one}
use Rattle.consistency.proofs.StartLaws.{reduced-settled}
use Rattle.course.proofs.StateLaws.{reduced_by-settled, forbade-settled}
use Rattle.course.proofs.CourseLaws.{run_final, used-choices, final_collapse}
use Rattle.course.proofs.EndLaws.{end_empty, end-written}

-- ---- what forbids spare

-- spared by all is spared by each
wanted_spares : (P : ℕ) (fs : List Forbid) (c p : ℕ) → Spared (wanted P fs) c p ↔ ((f : Forbid) → Memᴰ f fs → Spared (asked P f) c p)
unfolding wanted
wanted_spares P [] c p = (λ _ f m. absurd (Memᴰ.not-nil m), λ _. tt)
wanted_spares P (g ∷ fs) c p =
    let a = spared-append (asked P g) (wanted P fs) c p in
    let k = wanted_spares P fs c p in (
      λ h f m. go f (a.0 h).0 (k.0 (a.0 h).1 f) (Memᴰ.cases_cons m),
      λ h. a.1 (h g (Memᴰ.head refl), k.1 (λ f m. h f (Memᴰ.tail m))),
    )
  where
    go : (f : Forbid) → Spared (asked P g) c p → (Memᴰ f fs → Spared (asked P f) c p) → (f ≡ g) ⊎ Memᴰ f fs → Spared (asked P f) c p
    go f here later (inl e) = subst (λ (x : Forbid). Spared (asked P x) c p) (sym e) here
    go f here later (inr m) = later m

-- the same records ask the same to go
wanted-alike : (P : ℕ) (fs gs : List Forbid) → SameForbids fs gs → Alike (wanted P fs) (wanted P gs)
wanted-alike P fs gs same c p =
    let a = wanted_spares P fs c p in
    let b = wanted_spares P gs c p in
    (λ h. b.1 (λ f m. a.0 h f ((same f).1 m)), λ h. a.1 (λ f m. b.0 h f ((same f).0 m)))

-- ---- a pattern that is gone

module _ (i : Given) (A : Accepted i.table) (s : State Beside) (f : Forbid) (gone : possible s.domains f.cell f.pattern ≡ 0) where
  -- what follows the removals that are asked for
  spreads : State Beside → State Beside
  spreads r =
      propagated i.table i.grid (kept i.weights i.noise (cells i.grid))
      (state r.counts r.domains r.pending r.empty (unmarked (cells i.grid) r.beside))

  none_removed : f.keep ≡ 0 → forbids i.table.count (lessened i.weights) (asked i.table.count f) s ≡ s
  unfolding asked forbids forbid forbid_at
  none_removed k = rw (eq-eqb f.keep 0 k, gone)

  -- forbidding it changes nothing: no domain, no support count, no running value and no note
  pub forbid-gone : f.keep ≡ 0 → s.pending ≡ [] → laid i f s ≡ state s.counts s.domains s.pending s.empty (unmarked (cells i.grid) s.beside)
  unfolding laid reduced_by spreads propagated
  forbid-gone k e = ap spreads (none_removed k) ∙ propagate_none i.table i.grid A (kept i.weights i.noise (cells i.grid)) (cells i.grid * i.table.count) _ e

  -- keeping only it is a contradiction
  pub keep-gone : (f.keep ≡ 0 → ⊥) → f.cell < cells i.grid → Ready i.table i.grid s → (laid i f s).empty ≡ true
  unfolding laid asked
  keep-gone k h R = rw (ne_eqb f.keep 0 k) (S.contradiction ∙ emptied-sub S.greatest.fit F S.greatest.below empty)
    where
      us : List Removal
      us = others i.table.count f.cell f.pattern

      S : Settled i.table i.grid (removed_all us s.domains) (reduced_by i us s)
      S = reduced_by-settled i A us s (others-inside i.table.count (cells i.grid) f.cell f.pattern h) R

      F : Fit i.table.count (cells i.grid) (removed_all us s.domains)
      F = fit-removed_all us R.safe.fit

      none : (p : ℕ) → possible (removed_all us s.domains) f.cell p ≡ 1 → ⊥
      none p e =
          let (spared, was) = (possible-removed_all us s.domains f.cell p).0 e in
          let same = (spared-others i.table.count f.cell f.pattern f.cell p (pattern-below F f.cell p e)).0 spared refl in
          omega (arith, gone, was, ap (λ (q : ℕ). possible s.domains f.cell q) same)

      empty : emptied (removed_all us s.domains) ≡ true
      empty =
          at-emptied (removed_all us s.domains) f.cell (omega (arith, F.sized))
          (word-ext i.table.count (F.words f.cell) (pow_pos i.table.count) (λ p _. bit_not _ p (none p) ∙ sym (bit_none p)))

-- ---- the states that forbids lead to

-- walked one by one, they end as the same removals all together, whatever is kept beside the domains
pub forbids-together : (i : Given) (fs : List Forbid) → Lawful i fs → {X : Type 0} (keep : Removal → List ℕ → X → X) (x : X) (us : List Removal)
    → Inside i.table.count (cells i.grid) us → Alike (wanted i.table.count fs) us
    → (settled_as (laid_all i fs (begun i)).domains ≡ settled_as (reduced i.table i.grid keep x us).domains)
    × ((laid_all i fs (begun i)).empty ≡ (reduced i.table i.grid keep x us).empty)
forbids-together i fs L keep x us h a =
    settled-one i.table i.grid _ _ _ _ (forbade-settled i fs L) (reduced-settled i.table i.grid L.accepted keep x us h)
    (removed_all-alike (wanted i.table.count fs) us (fit-filled i.table.count (cells i.grid)) a)

-- the order of the records and their repeats do not matter
pub forbids-order : (i : Given) (fs gs : List Forbid) → Lawful i fs → Lawful i gs → SameForbids fs gs
    → (settled_as (laid_all i fs (begun i)).domains ≡ settled_as (laid_all i gs (begun i)).domains) × ((laid_all i fs (begun i)).empty ≡ (laid_all i gs (begun i)).empty)
forbids-order i fs gs L M same =
    settled-one i.table i.grid _ _ _ _ (forbade-settled i fs L) (forbade-settled i gs M)
    (removed_all-alike (wanted i.table.count fs) (wanted i.table.count gs) (fit-filled i.table.count (cells i.grid)) (wanted-alike i.table.count fs gs same))

-- a contradiction among the forbids ends the run before any word is used
pub forbids_contradict : (i : Given) (fs : List Forbid) → Lawful i fs → (words : List ℕ) → (laid_all i fs (begun i)).empty ≡ true
    → run_of i fs words ≡ ended 3 0 (replicate (cells i.grid) 0)
forbids_contradict i fs L words e =
    unfold run_of in (final_collapse i fs L words (record { choices = 0; state = s; reached = forbade; over = unfold turn in rw e }) (cells i.grid + 1) (omega arith))
    ∙ ap (λ (n : ℕ). ended 3 0 (replicate n 0)) (forbade-settled i fs L).safe.fit.sized
  where
    s : State Beside
    s = laid_all i fs (begun i)

-- ---- a run without words

-- no choice was made yet
reached_none : {i : Given} {fs : List Forbid} {words : List ℕ} {used : ℕ} {s : State Beside} → Reached i fs words 0 used s → s ≡ laid_all i fs (begun i)
reached_none forbade = refl

module _ (i : Given) (fs : List Forbid) (L : Lawful i fs) where
  final : Final i fs [] (run_of i fs [])
  final = run_final i fs L []

  -- it ends where the forbids end
  wordless_last : final.state ≡ laid_all i fs (begun i)
  wordless_last = reached_none (subst (λ (k : ℕ). Reached i fs [] k (run_of i fs []).used final.state) (let (each, _, none) = used-choices i fs L [] final in omega arith) final.reached)

  -- and writes what they leave
  wordless_written : ((run_of i fs []).domains ≡ settled_as (laid_all i fs (begun i)).domains) × (((run_of i fs []).end ≡ 3) ↔ ((laid_all i fs (begun i)).empty ≡ true))
  wordless_written = rw (← wordless_last) (end-written i fs L [] final, end_empty i fs L [] final)

  -- that is the greatest consistent subset of full domains less everything that they ask to go, or a Contradiction exactly where that has an empty cell
  pub wordless_greatest : (G : List ℕ) → Greatest i.table i.grid (full_less i (wanted i.table.count fs)) G
      → ((run_of i fs []).domains ≡ settled_as G) × (((run_of i fs []).end ≡ 3) ↔ (emptied G ≡ true))
  wordless_greatest G a =
      let (written, contradiction) = wordless_written in (
        written ∙ settled-written i.table i.grid _ _ (forbade-settled i fs L) G a,
        rw (← settled_contradiction i.table i.grid _ _ (forbade-settled i fs L) G a) contradiction,
      )

-- a run without words writes the same for the same records, in whatever order and however often
pub wordless_order : (i : Given) (fs gs : List Forbid) → Lawful i fs → Lawful i gs → SameForbids fs gs
    → ((run_of i fs []).domains ≡ (run_of i gs []).domains) × (((run_of i fs []).end ≡ 3) ↔ ((run_of i gs []).end ≡ 3))
wordless_order i fs gs L M same =
    let (a, b) = wordless_written i fs L in
    let (c, d) = wordless_written i gs M in
    let (e, f) = forbids-order i fs gs L M same in
    (a ∙ e ∙ sym c, (λ h. d.1 (sym f ∙ b.0 h), λ h. b.1 (f ∙ d.0 h)))
