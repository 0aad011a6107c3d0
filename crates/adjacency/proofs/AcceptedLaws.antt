-- Laws of acceptance: a table that is not refused is accepted, and an accepted one is not refused; its lists agree both ways and are short.
-- Follows docs/RULES.md, "Tables" and "Refusals".
-- Assumes nothing.
use mathlib.Core.Bool.{not, Bool, false, ◌||◌, cond}
use mathlib.Core.List.{List}
use mathlib.Core.Path.{◌≡◌, ap, ap₂, subst}
use Prim.Native.Nat.{ℕ, ◌+◌, ◌*◌, ◌/◌, ◌%◌, ◌≤◌, ◌<◌}
use native.Mathlib.Omega.{arith}
use lib.Dec.{T, eqb, ltb}
use lib.ListN.{length}
use borrow.Author.Tests.{eq-eqb, ne_eqb, le-ltb, eqb-true, eqb-false, ltb-false, not-false}
use Rattle.loops.specs.Tests.{elem}
use Rattle.directions.specs.Directions.{opposite}
use Rattle.adjacency.specs.Tables.{Table, list_of, InList}
use Rattle.adjacency.specs.Weights.{Weighed}
use Rattle.adjacency.specs.Checks.{bad_count, offsets_misfit, weights_misfit, over_weight, bad_list, agrees_at, agrees, disagree, table_tests, table_refusal}
use Rattle.adjacency.specs.Accepted.{Accepted}
use Rattle.loops.proofs.TestLaws.{T_true, true-T, neither, all-at, all_of, every-elem, every_of}
use Rattle.directions.proofs.DirectionLaws.{opposite-below, opposite-opposite}
use Rattle.refusals.proofs.RefusalLaws.{first-passed}
use Rattle.adjacency.proofs.WeightLaws.{weighed, weighed-good}
use Rattle.adjacency.proofs.ListLaws.{listed, listed-good, ascends-short}

-- ---- the refusal by the outcomes of its tests, for each end of the call that gives it

pub table_refusal-is : (t : Table) (ws : List ℕ) {count length weights list agreement : Bool} → bad_count t.count ≡ count
    → (weights_misfit t.count ws || offsets_misfit t.count t.offsets) ≡ length → over_weight ws ≡ weights → bad_list t ≡ list → disagree t ≡ agreement
    → table_refusal t ws ≡ cond count 3 (cond length 5 (cond weights 4 (cond list 6 (cond agreement 7 0))))
unfolding table_refusal
table_refusal-is t ws a b c d e = rw (a, b, c, d, e)

-- ---- each test that does not hold

pub counted : (P : ℕ) → bad_count P ≡ false → (1 ≤ P) × (P ≤ 64)
unfolding bad_count
counted P e =
    let (none, many) = neither (eqb P 0) (ltb 64 P) e in
    let some = eqb-false P 0 none in
    (omega arith, ltb-false 64 P many)

pub offsets_long : (P : ℕ) (offsets : List ℕ) → offsets_misfit P offsets ≡ false → length offsets ≡ 4 * P + 1
unfolding offsets_misfit
offsets_long P offsets e = eqb-true _ _ (not-false _ e)

module _ (t : Table) where
  pub agreed : disagree t ≡ false → (p q d : ℕ) → p < t.count → d < 4 → InList t p d q → InList t q (opposite d) p
  unfolding disagree agrees agrees_at
  agreed e p q d hp hd h =
      let k = 4 * p + d in
      let t-at : T (agrees_at t (k / 4) (k % 4)) = all-at (λ k. agrees_at t (k / 4) (k % 4)) (4 * t.count) (T_true (not-false (agrees t) e)) k (omega arith) in
      let p-is : k / 4 ≡ p = omega arith in
      let d-is : k % 4 ≡ d = omega arith in
      every-elem (λ r. elem p (list_of t r (opposite d))) (list_of t p d) (rw (p-is, d-is) at t-at) q h

  -- ---- no test holds

  pub accepted_by : bad_count t.count ≡ false → offsets_misfit t.count t.offsets ≡ false → bad_list t ≡ false → disagree t ≡ false → Accepted t
  accepted_by a b c d =
      let (some, few) = counted t.count a in
      record { some = some; few = few; listed = listed t (offsets_long t.count t.offsets b) c; agree = agreed d }

  pub accepted_of : (ws : List ℕ) → table_refusal t ws ≡ 0 → Accepted t × Weighed t.count ws
  unfolding table_refusal
  accepted_of ws e =
      let (a, (b, (c, (d, (f, _))))) = first-passed (table_tests t ws) e in
      let (weights, offsets) = neither (weights_misfit t.count ws) (offsets_misfit t.count t.offsets) b in
      (accepted_by a offsets d f, weighed t.count ws weights c)

-- ---- an accepted table is not refused

pub counted-good : (P : ℕ) → 1 ≤ P → P ≤ 64 → bad_count P ≡ false
unfolding bad_count
counted-good P some few = rw (ne_eqb P 0 (λ e. omega arith), le-ltb 64 P few)

pub long-good : (P : ℕ) (offsets : List ℕ) → length offsets ≡ 4 * P + 1 → offsets_misfit P offsets ≡ false
unfolding offsets_misfit
long-good P offsets e = rw (eq-eqb _ _ e)

module _ (t : Table) (ok : Accepted t) where
  pub agreed-good : disagree t ≡ false
  unfolding disagree agrees agrees_at
  agreed-good = ap not (true-T (agrees t) each)
    where
      each : T (agrees t)
      each =
          all_of (λ k. agrees_at t (k / 4) (k % 4)) (4 * t.count) (λ k l.
          every_of (λ q. elem (k / 4) (list_of t q (opposite (k % 4)))) (list_of t (k / 4) (k % 4)) (λ q h. ok.agree (k / 4) q (k % 4) (omega arith) (omega arith) h))

  pub accepted_complete : (bad_count t.count ≡ false) × (offsets_misfit t.count t.offsets ≡ false) × (bad_list t ≡ false) × (disagree t ≡ false)
  accepted_complete = (counted-good t.count ok.some ok.few, long-good t.count t.offsets ok.listed.laid.long, listed-good t ok.listed, agreed-good)

  pub accepted-passes : (ws : List ℕ) → Weighed t.count ws → table_refusal t ws ≡ 0
  accepted-passes ws w =
      let (a, b, c, d) = accepted_complete in
      let (e, f) = weighed-good w in
      table_refusal-is t ws a (ap₂ (λ x y. x || y) e b) f c d

  -- ---- its lists

  -- q is in p's list for d exactly where p is in q's list for the opposite
  pub agree-both : (p q d : ℕ) → p < t.count → q < t.count → d < 4 → (InList t p d q → InList t q (opposite d) p) × (InList t q (opposite d) p → InList t p d q)
  agree-both p q d hp hq hd =
      (ok.agree p q d hp hd, λ h. subst (λ e. InList t p e q) (opposite-opposite d hd) (ok.agree q p (opposite d) hq (opposite-below d hd) h))

  -- no list is longer than there are patterns
  pub list-short : (p d : ℕ) → p < t.count → d < 4 → length (list_of t p d) ≤ t.count
  list-short p d hp hd = ascends-short (list_of t p d) (ok.listed.ascends p d hp hd) (ok.listed.below p d hp hd)
