-- Laws of propagating starting domains with nothing kept beside them: where it begins, what the work list needs there, and what it leaves.
-- Follows docs/RULES.md, "Propagation". Assumes nothing.
use mathlib.Core.Bool.{Bool, true, false, true≢false}
use mathlib.Core.List.{List, [], ◌∷◌}
use mathlib.Core.Path.{◌≡◌, refl, sym, ap, subst, ◌∙◌}
use Prim.Native.Nat.{ℕ, zero, suc, ◌+◌, ◌*◌, ◌≤◌}
use native.Mathlib.Omega.{arith}
use lib.Ieee.{Float}
use lib.ListN.{length, get_or, take, replicate, length-replicate}
use Rattle.words.specs.Words.{gathered}
use Rattle.refusals.specs.Refusals.{answer}
use Rattle.adjacency.specs.Tables.{Table}
use Rattle.adjacency.specs.Fours.{four_of}
use Rattle.adjacency.specs.Weights.{weight_of, whole_weight, weighted, mask}
use Rattle.grid.specs.Grid.{Grid, cells}
use Rattle.notes.specs.Blocks.{blocks}
use Rattle.logarithms.specs.Logs.{Logs}
use Rattle.logarithms.specs.Lookups.{Lookups}
use Rattle.consistency.specs.Domains.{Fit, emptied}
use Rattle.consistency.specs.Worklist.{Removal, State, state, propagated}
use Rattle.consistency.specs.Start.{start_counts, missing, reduced}
use Rattle.consistency.specs.Withdrawn.{work, withdrawn, start_work}
use Rattle.consistency.specs.Forget.{nothing, forget}
use Rattle.consistency.specs.Safe.{Safe}
use Rattle.propagation.specs.declared.inner.propagator.Pile.{Pile}
use Rattle.propagation.specs.Lent.{pending_of, state_of, Lent, Ground}
use Rattle.notes.specs.Sizes.{Alongside}
use Rattle.starting.specs.Given.{Starting, given_state}
use Rattle.starting.specs.Propagate.{reduced_from, outcome, outcome_at}
use Rattle.loops.proofs.SumLaws.{sum-zero}
use Rattle.adjacency.proofs.WeightLaws.{weight_sum-le}
use Rattle.consistency.proofs.DomainLaws.{settled-empty, settled-whole}
use Rattle.consistency.proofs.Given.{given-settled}
use Rattle.consistency.proofs.ForgetLaws.{forget-propagated}
use Rattle.consistency.proofs.WithdrawnLaws.{given-start, given-safe}

-- ---- where it begins

module _ (t : Table) (D pending : List ℕ) (pile : Pile) {started counts : List ℕ} (s : started ≡ start_counts t (length D))
    (w : work counts (pending_of t.count pending pile.top) ≡ withdrawn t.count (missing t.count 0 D) (work started [])) (e : pile.empty ≡ emptied D) where
  laid : work counts (pending_of t.count pending pile.top) ≡ start_work t (length D) D
  unfolding start_work
  laid = w ∙ ap (λ (l : List ℕ). withdrawn t.count (missing t.count 0 D) (work l [])) s

  pub begin_is : state_of t.count D counts pending pile (tt {0}) ≡ given_state t D
  unfolding given_state
  begin_is = λ i. state (laid i).counts D (laid i).pending (e i) tt

-- ---- what the work list needs

module _ (t : Table) (g : Grid) (D : List ℕ) (G : Ground t g (length D)) (F : Fit t.count (length D) D) where
  fit : Fit t.count (cells g) D
  fit = subst (λ (n : ℕ). Fit t.count n D) G.all F

  safe : Safe t.count (length D) (length D * t.count) (given_state t D)
  unfolding given_state
  safe =
      subst (λ (n : ℕ). Safe t.count n (n * t.count) (state (start_work t n D).counts D (start_work t n D).pending (emptied D) (tt {0}))) (sym G.all)
      (given-safe t g G.accepted D fit)

  pub lent-given : {counts₀ counts pending₀ pending : List ℕ} {pile : Pile} → Starting t.count D counts₀ pending₀ → length pending ≡ length pending₀
      → state_of t.count D counts pending pile (tt {0}) ≡ given_state t D → Lent t.count (length D) D counts pending pile
  lent-given A p e =
      record {
        some = A.some;
        patterns = A.patterns;
        cells = A.cells;
        safe = subst (λ (s : State (Unit {0})). Safe t.count (length D) (length D * t.count) s) (sym e) safe;
        tall = p ∙ A.tall;
      }

  -- the work list from there leaves what is to be left
  pub reduced-given : propagated t g nothing (given_state t D) ≡ reduced_from t g D
  unfolding given_state reduced_from reduced
  reduced-given =
      ap (propagated t g nothing) (sym (given-start t g G.accepted D fit ∙ ap (λ (n : ℕ). state (start_work t n D).counts D (start_work t n D).pending (emptied D) tt) (sym G.all)))

-- ---- without weights

module _ (P : ℕ) where
  weightless : (p : ℕ) → weight_of (replicate P 0) p ≡ 0
  weightless p = go P p
    where
      go : (n p : ℕ) → ◌≡◌ {A = ℕ} (get_or (replicate n 0) p 0) 0
      go zero p = refl
      go (suc n) zero = refl
      go (suc n) (suc p) = go n p

  unweighted : (p : ℕ) → weighted (replicate P 0) p ≡ false
  unfolding weighted
  unweighted p = rw (weightless p)

  light : whole_weight (replicate P 0) ≡ 0
  unfolding whole_weight
  light = sum-zero (length (replicate P 0)) (weight_of (replicate P 0)) (λ p _. weightless p)

  pub mask_none : mask (replicate P 0) ≡ 0
  unfolding mask gathered
  mask_none = sum-zero (length (replicate P 0)) _ (λ p _. rw (unweighted p))

  -- without weights room is asked for the marks alone
  pub alongside_none : (n : ℕ) (noise : List ℕ) (floats : List Float) (marks : List ℕ) → 2 * n + blocks n ≤ length marks → Alongside P n (replicate P 0) noise floats marks
  alongside_none n noise floats marks marked =
      record {
        weighed = record { one_each = length-replicate P 0; light = omega (arith, light) };
        marked = marked;
        roomy = λ p e. absurd (true≢false (sym e ∙ unweighted p));
      }

-- every weight sum is 0
pub lookups_none : (P : ℕ) → P ≤ 64 → {logs : List Float} → Logs logs → Lookups (replicate P 0) logs (replicate 256 0)
lookups_none P h lent =
    record {
      logs_lent = lent;
      sums_lent =
          record {
            each = λ e _. omega (arith, weightless 256 e, light P, weight_sum-le (replicate P 0) (four_of e));
            all_there = omega (arith, length-replicate {A = ℕ} P 0, length-replicate {A = ℕ} 256 0);
            in_sixteens = refl;
          };
      sums_few = omega (arith, length-replicate {A = ℕ} 256 0);
    }

-- the weights that the code lends
pub take-zeros : (n m : ℕ) → n ≤ m → take {A = ℕ} n (replicate m 0) ≡ replicate n 0
take-zeros zero m h = refl
take-zeros (suc n) zero h = absurd (omega arith)
take-zeros (suc n) (suc m) h = ap (λ (l : List ℕ). 0 ∷ l) (take-zeros n m (omega arith))

-- ---- what it leaves

-- whatever is kept beside the domains, the work list from there leaves what is to be left
pub reduce-is : (t : Table) (g : Grid) (D : List ℕ) → Ground t g (length D) → Fit t.count (length D) D → {X : Type 0} (keep : Removal → List ℕ → X → X) (s r : State X)
    → forget s ≡ given_state t D → r ≡ propagated t g keep s → forget r ≡ reduced_from t g D
reduce-is t g D G F keep s r a b = ap forget b ∙ forget-propagated t g keep s ∙ ap (propagated t g nothing) a ∙ reduced-given t g D G F

-- ---- what is written

module _ (t : Table) (g : Grid) (D counts pending : List ℕ) (G : Ground t g (length D)) (F : Fit t.count (length D) D) where
  reduced-told : (reduced_from t g D).empty ≡ emptied (reduced_from t g D).domains
  unfolding reduced_from
  reduced-told = (given-settled t g G.accepted nothing tt D (fit t g D G F)).safe.told

  module _ {empty : Bool} {D' counts' pending' : List ℕ} (a : empty ≡ (reduced_from t g D).empty) (b : D' ≡ (reduced_from t g D).domains)
      (c : counts' ≡ replicate (length counts) 0) (d : pending' ≡ replicate (length pending) 0) where
    -- a cell was emptied, and the domains are written as zero
    pub settle-empty : {none : List ℕ} → empty ≡ true → none ≡ replicate (length D') 0 → outcome (answer true) none counts' pending' ≡ outcome_at 0 t g D counts pending
    unfolding outcome_at
    settle-empty h z = rw (c, d, z, b, ← a, h, settled-empty (reduced_from t g D).domains (sym reduced-told ∙ sym a ∙ h))

    -- none was
    pub settle-whole : empty ≡ false → outcome (answer false) D' counts' pending' ≡ outcome_at 0 t g D counts pending
    unfolding outcome_at
    settle-whole h = rw (c, d, b, ← a, h, settled-whole (reduced_from t g D).domains (sym reduced-told ∙ sym a ∙ h))
