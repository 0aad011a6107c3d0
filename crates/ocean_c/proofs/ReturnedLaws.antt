-- Laws of what a call returns: its answer as a number beside what it leaves, and that no second outcome fits. Follows docs/RULES.md, "Refusals".
-- Assumes nothing.
use mathlib.Core.Bool.{Bool}
use mathlib.Core.List.{List, [], ◌∷◌}
use mathlib.Core.Path.{◌≡◌, refl, sym, ap, ◌∙◌}
use Prim.Native.Nat.{ℕ, zero, suc}
use native.Mathlib.Omega.{arith}
use lib.ListN.{length, set}
use borrow.Author.Tests.{eq-eqb, ne_eqb}
use Rattle.refusals.specs.declared.Refusal.{Refusal}
use Rattle.refusals.specs.Refusals.{number, first_of, Asked, answer, checked, unless}
use Rattle.layout.specs.Lending.{Lent}
use Rattle.layout.specs.Reading.{sheet_in}
use Rattle.course.specs.Called.{End, Memory, Outcome, outcome}
use Rattle.sheet.specs.declared.Measures.{Measures}
use Rattle.std.specs.Prelude.{Result, Ok, Err}
use Rattle.sheet.specs.Called.{form_test, measured, sizes_told, sizes_asked, read_tests, ReadOutcome, read_outcome, read_at, read_called, WriteOutcome, write_outcome}
use Rattle.sheet.specs.Result.{ResultOutcome, result_outcome}
use Rattle.ocean_c.specs.Coded.{coded, settled_coded, bytes_coded, accepted_coded}
use Rattle.ocean_c.specs.Returned.{Settled, settled, settled_of, Returned, returned, returned_of, ResultReturned, result_returned, result_returned_of, Sized, sized, measures_of, sized_in, sized_of, ReadReturned, read_returned, read_returned_of, WriteReturned, write_returned, write_returned_of}
use Rattle.refusals.proofs.RefusalLaws.{first-passed, passed_first}
use Rattle.ocean_c.proofs.BoundLaws.{answer-refused}
use Rattle.starting.specs.Propagate as propagation

-- ---- the answer as a number

pub settled-returned : {o : propagation.Outcome} {told : Asked Bool} {D counts pending : List ℕ} {code : ℕ}
    → propagation.outcome told D counts pending ≡ o → code ≡ settled_coded told → settled code D counts pending ≡ settled_of o
unfolding settled_of
settled-returned {o} {told} {D} {counts} {pending} e c = ap (λ (n : ℕ). settled n D counts pending) c ∙ ap settled_of e

pub run-returned : {o : Outcome} {told : Asked End} {m : Memory} {code : ℕ} → outcome told m ≡ o → code ≡ coded told → returned code m ≡ returned_of o
unfolding returned_of
run-returned {o} {told} {m} e c = ap (λ (n : ℕ). returned n m) c ∙ ap returned_of e

pub result-returned : {o : ResultOutcome} {told : Asked End} {m : Memory} {out : List ℕ} {code : ℕ} → result_outcome (outcome told m) out ≡ o → code ≡ coded told
    → result_returned code m out ≡ result_returned_of o
unfolding result_returned_of
result-returned {o} {told} {m} {out} e c = ap (λ (n : ℕ). result_returned n m out) c ∙ ap result_returned_of e

pub read-returned : {o : ReadOutcome} {told : Asked Measures} {l : Lent} {code : ℕ} → read_outcome told l ≡ o → code ≡ accepted_coded told
    → read_returned code l ≡ read_returned_of o
unfolding read_returned_of
read-returned {o} {told} {l} e c = ap (λ (n : ℕ). read_returned n l) c ∙ ap read_returned_of e

pub write-returned : {o : WriteOutcome} {told : Asked ℕ} {out : List ℕ} {code : ℕ} → write_outcome told out ≡ o → code ≡ bytes_coded told
    → write_returned code out ≡ write_returned_of o
unfolding write_returned_of
write-returned {o} {told} {out} e c = ap (λ (n : ℕ). write_returned n out) c ∙ ap write_returned_of e

-- ---- a sheet's sizes

-- six numbers written one after the other are all that a slice of six holds
pub measures-laid : (m : Measures) (l : List ℕ) → length l ≡ 6
    → set (set (set (set (set (set l 0 m.count) 1 m.ids) 2 m.width) 3 m.height) 4 m.mode) 5 m.forbids ≡ measures_of m
unfolding measures_of
measures-laid m [] e = absurd (omega (arith, e))
measures-laid m (a ∷ []) e = absurd (omega (arith, e))
measures-laid m (a ∷ b ∷ []) e = absurd (omega (arith, e))
measures-laid m (a ∷ b ∷ c ∷ []) e = absurd (omega (arith, e))
measures-laid m (a ∷ b ∷ c ∷ d ∷ []) e = absurd (omega (arith, e))
measures-laid m (a ∷ b ∷ c ∷ d ∷ f ∷ []) e = absurd (omega (arith, e))
measures-laid m (a ∷ b ∷ c ∷ d ∷ f ∷ g ∷ []) e = refl
measures-laid m (a ∷ b ∷ c ∷ d ∷ f ∷ g ∷ h ∷ l) e = absurd (omega (arith, e))

module _ {a : Result Measures Refusal} {told : Asked Measures} (is : sizes_told a ≡ told) (l : List ℕ) where
  -- at each end of `murghidossu_sizes`
  pub sized-refused : {r : Refusal} {n : ℕ} → a ≡ Err r → n ≡ number r → sized n l ≡ sized_of told l
  unfolding sized_of sizes_told
  sized-refused e k = ap (λ (n : ℕ). sized n l) k ∙ ap (λ (t : Asked Measures). sized_of t l) (sym (ap sizes_told e) ∙ is)

  pub sized-short : {m : Measures} → a ≡ Ok m → (length l ≡ 6 → ⊥) → sized 5 l ≡ sized_of told l
  unfolding sized_of sized_in sizes_told
  sized-short {m} e h = sym (ap (λ (b : Bool). sized_in b m l) (ne_eqb (length l) 6 h)) ∙ ap (λ (t : Asked Measures). sized_of t l) (sym (ap sizes_told e) ∙ is)

  pub sized-laid : {m : Measures} {l' : List ℕ} → a ≡ Ok m → length l ≡ 6 → l' ≡ measures_of m → sized 0 l' ≡ sized_of told l
  unfolding sized_of sized_in sizes_told
  sized-laid {m} e h k =
      ap (λ (x : List ℕ). sized 0 x) k
      ∙ sym (ap (λ (b : Bool). sized_in b m l) (eq-eqb (length l) 6 h))
      ∙ ap (λ (t : Asked Measures). sized_of t l) (sym (ap sizes_told e) ∙ is)

-- what a sheet that is read holds is what its sizes tell
read-sized : (b : List ℕ) (l : Lent) (m : Measures) (k : ℕ) → first_of (read_tests b l) ≡ k → (read_at k (sheet_in b) l).told ≡ answer m → sizes_asked b ≡ answer m
unfolding read_at sizes_asked checked unless read_tests
read-sized b l m zero q e =
    let (form, _) = first-passed (read_tests b l) q in
    ap (λ (n : ℕ). unless n (measured (sheet_in b))) (passed_first (form_test b ∷ []) (form, tt)) ∙ e
read-sized b l m (suc k) q e = absurd (answer-refused m (suc k) (sym e))

pub read-sizes : (b : List ℕ) (l : Lent) (m : Measures) → (read_called b l).told ≡ answer m → sizes_asked b ≡ answer m
unfolding read_called
read-sizes b l m e = read-sized b l m (first_of (read_tests b l)) refl e

-- ---- no second outcome fits

-- of a call that only answers
pub number-unique : (x a b : ℕ) → a ≡ x → b ≡ x → a ≡ b
number-unique x a b p q = p ∙ sym q

pub murghidossu_propagate-unique : (x : Settled) (a b : ℕ) (D₁ D₂ counts₁ counts₂ pending₁ pending₂ : List ℕ) → settled a D₁ counts₁ pending₁ ≡ x
    → settled b D₂ counts₂ pending₂ ≡ x → (a ≡ b) × (D₁ ≡ D₂) × (counts₁ ≡ counts₂) × (pending₁ ≡ pending₂)
murghidossu_propagate-unique x a b D₁ D₂ counts₁ counts₂ pending₁ pending₂ p q =
    let e = p ∙ sym q in
    (ap (λ (y : Settled). y.code) e, ap (λ (y : Settled). y.domains) e, ap (λ (y : Settled). y.counts) e, ap (λ (y : Settled). y.pending) e)

pub murghidossu_run-unique : (x : Returned) (a b : ℕ) (m₁ m₂ : Memory) → returned a m₁ ≡ x → returned b m₂ ≡ x → (a ≡ b) × (m₁ ≡ m₂)
murghidossu_run-unique x a b m₁ m₂ p q = (ap (λ (y : Returned). y.code) (p ∙ sym q), ap (λ (y : Returned). y.memory) (p ∙ sym q))

pub murghidossu_run-result-unique : (x : ResultReturned) (a b : ℕ) (m₁ m₂ : Memory) (out₁ out₂ : List ℕ) → result_returned a m₁ out₁ ≡ x → result_returned b m₂ out₂ ≡ x
    → (a ≡ b) × (m₁ ≡ m₂) × (out₁ ≡ out₂)
murghidossu_run-result-unique x a b m₁ m₂ out₁ out₂ p q =
    let e = p ∙ sym q in
    (ap (λ (y : ResultReturned). y.run.code) e, ap (λ (y : ResultReturned). y.run.memory) e, ap (λ (y : ResultReturned). y.out) e)

pub murghidossu_sizes-unique : (x : Sized) (a b : ℕ) (l₁ l₂ : List ℕ) → sized a l₁ ≡ x → sized b l₂ ≡ x → (a ≡ b) × (l₁ ≡ l₂)
murghidossu_sizes-unique x a b l₁ l₂ p q = (ap (λ (y : Sized). y.code) (p ∙ sym q), ap (λ (y : Sized). y.measures) (p ∙ sym q))

pub murghidossu_read-unique : (x : ReadReturned) (a b : ℕ) (l₁ l₂ : Lent) → read_returned a l₁ ≡ x → read_returned b l₂ ≡ x → (a ≡ b) × (l₁ ≡ l₂)
murghidossu_read-unique x a b l₁ l₂ p q = (ap (λ (y : ReadReturned). y.code) (p ∙ sym q), ap (λ (y : ReadReturned). y.lent) (p ∙ sym q))

pub murghidossu_write-unique : (x : WriteReturned) (a b : ℕ) (out₁ out₂ : List ℕ) → write_returned a out₁ ≡ x → write_returned b out₂ ≡ x → (a ≡ b) × (out₁ ≡ out₂)
murghidossu_write-unique x a b out₁ out₂ p q = (ap (λ (y : WriteReturned). y.code) (p ∙ sym q), ap (λ (y : WriteReturned). y.out) (p ∙ sym q))
