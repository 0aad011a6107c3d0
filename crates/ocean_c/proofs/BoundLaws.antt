-- The value that a call tells is small enough for its bits. Follows docs/RULES.md, "Refusals". Assumes nothing.
use mathlib.Core.List.{List}
use Rattle.std.specs.Prelude.{Option, Some, None, IfSome}
use Rattle.std.proofs.lemmas.Option.{none-some}
use mathlib.Core.Path.{◌≡◌, refl, sym, subst}
use Prim.Native.Nat.{ℕ, zero, suc, ◌%◌, ◌≤◌, ◌<◌}
use native.Mathlib.Omega.{arith}
use lib.Ieee.{Float}
use lib.ListN.{length}
use borrow.Author.Tests.{leb-false, ltb-false}
use Rattle.refusals.specs.Refusals.{first_of, Asked, refused, answer, unless, checked}
use Rattle.directions.specs.Directions.{bad_direction}
use Rattle.order.specs.Numbers.{Number}
use Rattle.adjacency.specs.Tables.{Table}
use Rattle.adjacency.specs.Weights.{weight_sum}
use Rattle.grid.specs.Grid.{Grid, cells, neighbour, bad_cell}
use Rattle.grid.specs.Answers.{neighbour_tests, neighbour_asked}
use Rattle.logarithms.specs.Entropy.{entropy_of}
use Rattle.logarithms.specs.Asked.{domain_tests, domain_refusal, entropy_asked}
use Rattle.forbids.specs.declared.Forbid.{Forbid}
use Rattle.course.specs.Run.{Given, Ended, run_of}
use Rattle.course.specs.Called.{End, Memory, Outcome, base_tests, tests_of, outcome, finished, called_of}
use Rattle.forbids.specs.Forbids.{forbids_of, records_in}
use Rattle.choice.specs.Asked.{taken_if, choice_of, choice_asked}
use Rattle.layout.specs.Tables.{sheet_for}
use Rattle.sheet.specs.Called.{scalar_tests, content_tests, sheet_tests, write_misfit, write_tests, WriteOutcome, write_outcome, write_at, write_called}
use Rattle.sheet.specs.Result.{result_tests, ResultOutcome, result_outcome, result_at, result_called}
use Rattle.ocean_c.specs.Coded.{used_in, bytes_in}
use Rattle.loops.proofs.TestLaws.{neither}
use Rattle.refusals.proofs.RefusalLaws.{first-passed, passed_first}
use Rattle.adjacency.proofs.WeightLaws.{weight-inside}
use Rattle.grid.proofs.GridLaws.{sized_of, neighbour-inside}
use Rattle.logarithms.proofs.AskedLaws.{domain_bounded}
use Rattle.logarithms.proofs.EntropyLaws.{entropy_of-number}
use Rattle.choice.proofs.ChoiceLaws.{taken_in}
use Rattle.course.proofs.CalledLaws.{called-granted, called-accepted, refused_same}
use Rattle.course.proofs.CourseLaws.{run_final, used-choices}
use Rattle.sheet.proofs.StorableLaws.{storable}
use Rattle.sheet.proofs.RoundLaws.{sheet-passed, longest}

-- no answer is a refusal, and no pattern is none
pub answer-refused : {A : Type 0} (x : A) (n : ℕ) → answer x ≡ refused n → ⊥
answer-refused {A} x n e = subst (λ (a : Asked A). Answered a) e tt
  where
    Answered : Asked A → Type 0
    Answered (answer y) = Unit {0}
    Answered (refused k) = ⊥

-- ---- a neighbour

near-inside : (g : Grid) (c d n : ℕ) (k : ℕ) → first_of (neighbour_tests g c d) ≡ k → answer (Some n) ≡ unless k (neighbour g c d) → n < 4294967296
unfolding unless bad_direction bad_cell
near-inside g c d n zero q e =
    let (size, (wrap, (direction, (cell, _)))) = first-passed (neighbour_tests g c d) q in
    let S = sized_of g size wrap in
    let found : neighbour g c d ≡ Some n = cc in
    let inside = neighbour-inside g c d n (leb-false (cells g) c cell) (omega (arith, ltb-false 3 d direction)) found in
    omega (arith, inside, S.few)
near-inside g c d n (suc k) q e = absurd (answer-refused (Some n) (suc k) e)

pub near-small : (g : Grid) (c d n : ℕ) → answer (Some n) ≡ neighbour_asked g c d → n < 4294967296
unfolding neighbour_asked checked
near-small g c d n e = near-inside g c d n (first_of (neighbour_tests g c d)) refl e

-- and so is what lies there, if anything
pub near-few : (g : Grid) (c d : ℕ) (o : Option ℕ) → answer o ≡ neighbour_asked g c d → IfSome o (λ n. n < 4294967296)
near-few g c d (Some n) e = near-small g c d n e
near-few g c d None e = tt

-- ---- what is asked of a domain

module _ (P : ℕ) (ws : List ℕ) (w : ℕ) where
  module _ (word p : ℕ) where
    -- a domain that is not refused has at most 64 weights
    choice-taken : first_of (domain_tests P ws w) ≡ 0 → (s : ℕ) → taken_if s ws w word ≡ Some p → p < 4294967296
    unfolding taken_if domain_refusal
    choice-taken q zero e = absurd (none-some p e)
    choice-taken q (suc s) e =
        let B = domain_bounded P ws w q in
        omega (arith, weight-inside ws p (taken_in ws w (word % suc s) p e).1, B.few)

    choice-inside : (k : ℕ) → first_of (domain_tests P ws w) ≡ k → answer (Some p) ≡ unless k (choice_of ws w word) → p < 4294967296
    unfolding unless choice_of
    choice-inside zero q e = choice-taken q (weight_sum ws w) (cc)
    choice-inside (suc k) q e = absurd (answer-refused (Some p) (suc k) e)

    pub choice-small : answer (Some p) ≡ choice_asked P ws w word → p < 4294967296
    unfolding choice_asked checked
    choice-small e = choice-inside (first_of (domain_tests P ws w)) refl e

  pub choice-few : (word : ℕ) (o : Option ℕ) → answer o ≡ choice_asked P ws w word → IfSome o (λ p. p < 4294967296)
  choice-few word (Some p) e = choice-small word p e
  choice-few word None e = tt

  -- an entropy that is told is no NaN
  module _ (x : Float) where
    entropy-told : (k : ℕ) → first_of (domain_tests P ws w) ≡ k → answer (Some x) ≡ unless k (entropy_of ws w) → Number x
    unfolding unless domain_refusal
    entropy-told zero q e = entropy_of-number ws w x (domain_bounded P ws w q).light (cc)
    entropy-told (suc k) q e = absurd (answer-refused (Some x) (suc k) e)

    pub entropy-number : answer (Some x) ≡ entropy_asked P ws w → Number x
    unfolding entropy_asked checked
    entropy-number e = entropy-told (first_of (domain_tests P ws w)) refl e

-- ---- a run

-- a call uses at most 1,024 words
module _ (lent : ℕ) (i : Given) (fs : List Forbid) (words : List ℕ) (m : Memory) where
  finished-used : (e : Ended) → used_in (finished e m).told ≡ e.used
  unfolding finished used_in
  finished-used e = refl

  refused-used : (n : ℕ) → used_in (outcome (refused n) m).told ≡ 0
  unfolding used_in
  refused-used n = refl

  pub called-few : used_in (called_of lent i fs words m).told ≤ 1024
  called-few = go (first_of (tests_of lent i fs m)) refl
    where
      go : (n : ℕ) → first_of (tests_of lent i fs m) ≡ n → used_in (called_of lent i fs words m).told ≤ 1024
      go zero e =
          let G = called-granted lent i fs m e in
          let U = used-choices i fs G.lawful words (run_final i fs G.lawful words) in
          rw (called-accepted lent i fs words m e, finished-used (run_of i fs words)) (omega (arith, U.1, G.sized.few))
      go (suc n) e = rw (refused_same lent i fs words m n e, refused-used (suc n)) (omega arith)

  -- what the call tells is used so
  pub told-few : {told : Asked End} {m' : Memory} → outcome told m' ≡ called_of lent i fs words m → used_in told ≤ 1024
  told-few e = subst (λ (o : Outcome). used_in o.told ≤ 1024) (sym e) called-few

-- ---- a run whose result is written

-- what is not refused with its result is not refused without
result-called : (i : Given) (ns : List ℕ) (m : Memory) (room : ℕ) → first_of (result_tests i ns m room) ≡ 0 → first_of (tests_of (records_in ns) i (forbids_of ns) m) ≡ 0
unfolding result_tests tests_of sheet_tests scalar_tests content_tests base_tests
result-called i ns m room q =
    let (count, (size, (wrap, (lengths, (heavy, (list, (agreement, placed))))))) = first-passed (result_tests i ns m room) q in
    passed_first (tests_of (records_in ns) i (forbids_of ns) m) (count, (size, (wrap, ((neither _ _ lengths).0, (heavy, (list, (agreement, placed)))))))

module _ (i : Given) (ns words : List ℕ) (m : Memory) (out : List ℕ) where
  result-used : (k : ℕ) → first_of (result_tests i ns m (length out)) ≡ k → used_in (result_at k i (forbids_of ns) words m out).run.told ≤ 1024
  unfolding result_at finished used_in
  result-used zero q =
      let G = called-granted (records_in ns) i (forbids_of ns) m (result-called i ns m (length out) q) in
      let U = used-choices i (forbids_of ns) G.lawful words (run_final i (forbids_of ns) G.lawful words) in
      omega (arith, U.1, G.sized.few)
  result-used (suc k) q = omega arith

  pub result-few : {told : Asked End} {m' : Memory} {out' : List ℕ} → result_outcome (outcome told m') out' ≡ result_called i ns words m out → used_in told ≤ 1024
  unfolding result_called
  result-few e = subst (λ (o : ResultOutcome). used_in o.run.told ≤ 1024) (sym e) (result-used (first_of (result_tests i ns m (length out))) refl)

-- ---- a sheet that is written

module _ (t : Table) (weights : List ℕ) (g : Grid) (forbids out : List ℕ) where
  bytes-told : (k : ℕ) → first_of (write_tests t weights g forbids (length out)) ≡ k → bytes_in (write_at k (sheet_for t weights g forbids) out).told ≤ 41376
  unfolding write_at bytes_in write_tests
  bytes-told zero q =
      let (scalars, lengths, content) = sheet-passed (write_misfit t weights forbids (length out)) t weights g forbids q in
      longest t weights g forbids (storable t weights g forbids (length out) scalars lengths content).0
  bytes-told (suc k) q = omega arith

  pub written-few : {told : Asked ℕ} {out' : List ℕ} → write_outcome told out' ≡ write_called t weights g forbids out → bytes_in told ≤ 41376
  unfolding write_called
  written-few e = subst (λ (o : WriteOutcome). bytes_in o.told ≤ 41376) (sym e) (bytes-told (first_of (write_tests t weights g forbids (length out))) refl)
