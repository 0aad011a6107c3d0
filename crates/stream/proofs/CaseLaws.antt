-- Laws of the bytes that a case is answered: each end of `tell`, and that the number of a refusal has its two bytes.
-- Assumes nothing.
use mathlib.Core.Bool.{Bool, true, false, cond}
use mathlib.Core.List.{List, ◌∷◌, ◌++◌}
use mathlib.Core.Path.{◌≡◌, refl, sym, ap, ◌∙◌, subst}
use Prim.Native.Nat.{ℕ, zero, suc, ◌+◌, ◌≤◌, ◌<◌}
use native.Mathlib.Omega.{arith}
use lib.Dec.{eqb}
use lib.ListN.{length, take, drop, length-append}
use lib.Seq.{take-append_seam}
use Rattle.records.specs.Numbers.{u16}
use Rattle.records.specs.Laying.{over, pen, laid}
use Rattle.course.specs.Run.{Given, given, Ended, run_of}
use Rattle.forbids.specs.Forbids.{forbids_of}
use Rattle.grid.specs.Grid.{cells}
use Rattle.layout.specs.Sheet.{Sheet}
use Rattle.layout.specs.Reading.{sheet_in}
use Rattle.layout.specs.Tables.{table_of}
use Rattle.sheet.specs.Called.{form_test, sheet_tests}
use Rattle.sheet.specs.Result.{result_of}
use Rattle.bounded.specs.Laid.{Told, too_large, refused, answer, onward, sheet_refusal, large, taken_at, taken_of, ran_of, laid_of, Finish, finish, Outcome, outcome, laid_told, laid_at}
use Rattle.std.specs.Prelude.{Result, Ok, Err}
use Rattle.refusals.specs.declared.Refusal.{Refusal}
use Rattle.refusals.specs.Refusals.{number}
use Rattle.collapse.specs.Endings.{end_number}
use Rattle.bounded.specs.declared.inner.Unfit.{Unfit}
use Rattle.bounded.specs.declared.inner.Laid.{Laid}
use Rattle.stream.specs.Cases.{answer_of}
use Rattle.refusals.proofs.RefusalLaws.{first-most}
use Rattle.records.proofs.NumberLaws.{length-u16}
use Rattle.records.proofs.LayingLaws.{pen-place}
use Rattle.bounded.specs.declared.inner.Unfit.TheVariants as unfit

-- ---- a refusal's number

-- the number of what is told, 0 where that is none
number_in : {A : Type 0} → Told A → ℕ
number_in too_large = 0
number_in (refused n) = n
number_in (answer x) = 0

most-onward : {A B : Type 0} (x : Told A) (f : A → Told B) → number_in x ≤ 11 → ((a : A) → number_in (f a) ≤ 11) → number_in (onward x f) ≤ 11
unfolding number_in onward
most-onward too_large f h k = omega arith
most-onward (refused n) f h k = h
most-onward (answer x) f h k = k x

most-own : (b : List ℕ) → sheet_refusal b ≤ 11
unfolding sheet_refusal
most-own b =
    let s = sheet_in b in
    first-most (form_test b ∷ sheet_tests false (table_of s) s.weights s.grid s.forbids)

most-taken : (b : List ℕ) → number_in (taken_of b) ≤ 11
unfolding number_in taken_of taken_at
most-taken b = at (sheet_refusal b) (sheet_in b) (most-own b)
  where
    size : (v : Bool) (s : Sheet) → number_in (cond v too_large (answer s)) ≤ 11
    size true s = omega arith
    size false s = omega arith

    at : (n : ℕ) (s : Sheet) → n ≤ 11 → number_in (taken_at n s) ≤ 11
    at zero s h = size (large s.grid (length s.weights)) s
    at (suc n) s h = h

most-ran : (i : Given) (ns words : List ℕ) → number_in (ran_of i ns words) ≤ 11
unfolding number_in ran_of
most-ran i ns words = go (eqb (length i.noise) (cells i.grid)) (run_of i (forbids_of ns) words)
  where
    go : (v : Bool) (e : Ended) → number_in (cond v (answer e) (refused 5)) ≤ 11
    go true e = omega arith
    go false e = omega arith

most-laid : (b noise words : List ℕ) (n : ℕ) → laid_of b noise words ≡ refused n → n ≤ 11
unfolding laid_of number_in
most-laid b noise words n e =
    subst (λ (x : Told Ended). number_in x ≤ 11) e
    (most-onward (taken_of b) (λ (s : Sheet). ran_of (given (table_of s) s.weights s.grid noise) s.forbids words) (most-taken b) (λ s. most-ran (given (table_of s) s.weights s.grid noise) s.forbids words))

-- ---- each end

-- which of the three is told, and how long the result is
kind : Told Finish → ℕ
kind too_large = 1
kind (refused n) = 2 + n
kind (answer x) = 0

size_in : Told Finish → ℕ
size_in (answer x) = x.size
size_in too_large = 0
size_in (refused n) = 0

module _ (x : Told Ended) (d o d₀ o₀ : List ℕ) where
  -- the result stands at the front of what was written
  told-ended : (end used size : ℕ) → outcome (answer (finish end used size)) d o ≡ laid_at x d₀ o₀ → (answer_of x ≡ u16 0 ++ take size o) × (size ≤ length o)
  unfolding laid_at answer_of over kind size_in
  told-ended end used size e = go x e
    where
      go : (x : Told Ended) → outcome (answer (finish end used size)) d o ≡ laid_at x d₀ o₀ → (answer_of x ≡ u16 0 ++ take size o) × (size ≤ length o)
      go too_large e = absurd (omega (arith, ap (λ (q : Outcome). kind q.told) e))
      go (refused n) e = absurd (omega (arith, ap (λ (q : Outcome). kind q.told) e))
      go (answer r) e =
          let many : size ≡ length (result_of r) = ap (λ (q : Outcome). size_in q.told) e in
          let stands : o ≡ result_of r ++ drop (length (result_of r)) o₀ = ap (λ (q : Outcome). q.out) e in
          let front : take size o ≡ result_of r = ap (take size) stands ∙ ap (λ (n : ℕ). take n (result_of r ++ drop (length (result_of r)) o₀)) many ∙ take-append_seam (result_of r) (drop (length (result_of r)) o₀) in (
            ap (λ (l : List ℕ). u16 0 ++ l) (sym front),
            omega (arith, many, ap length stands, length-append (result_of r) (drop (length (result_of r)) o₀)),
          )

  told-refused : (n : ℕ) → outcome (refused n) d o ≡ laid_at x d₀ o₀ → x ≡ refused n
  unfolding laid_at kind
  told-refused n e = go x e
    where
      go : (x : Told Ended) → outcome (refused n) d o ≡ laid_at x d₀ o₀ → x ≡ refused n
      go too_large e = absurd (omega (arith, ap (λ (q : Outcome). kind q.told) e))
      go (refused k) e = ap refused (omega (arith, ap (λ (q : Outcome). kind q.told) e))
      go (answer r) e = absurd (omega (arith, ap (λ (q : Outcome). kind q.told) e))

  told-large : outcome too_large d o ≡ laid_at x d₀ o₀ → x ≡ too_large
  unfolding laid_at kind
  told-large e = go x e
    where
      go : (x : Told Ended) → outcome too_large d o ≡ laid_at x d₀ o₀ → x ≡ too_large
      go too_large e = refl
      go (refused k) e = absurd (omega (arith, ap (λ (q : Outcome). kind q.told) e))
      go (answer r) e = absurd (omega (arith, ap (λ (q : Outcome). kind q.told) e))

-- ---- the answer, by what `lay` told

module _ (b noise words d o d₀ o₀ : List ℕ) (r : Result Laid Unfit) (e : outcome (laid_told r) d o ≡ laid_at (laid_of b noise words) d₀ o₀) where
  came : (v : Result Laid Unfit) → r ≡ v → outcome (laid_told v) d o ≡ laid_at (laid_of b noise words) d₀ o₀
  came v is = ap (λ (x : Result Laid Unfit). outcome (laid_told x) d o) (sym is) ∙ e

  pub room-ended : (l : Laid) → r ≡ Ok l → l.size ≤ length o
  unfolding laid_told
  room-ended l is = (told-ended (laid_of b noise words) d o d₀ o₀ (end_number l.end) l.used l.size (came (Ok l) is)).1

  pub room-refused : (n : Refusal) → r ≡ Err (unfit.Refused n) → number n < 65536
  unfolding laid_told
  room-refused n is = omega (arith, most-laid b noise words (number n) (told-refused (laid_of b noise words) d o d₀ o₀ (number n) (came (Err (unfit.Refused n)) is)))

  pub answer-ended : (l : Laid) → r ≡ Ok l → answer_of (laid_of b noise words) ≡ u16 0 ++ take l.size o
  unfolding laid_told
  answer-ended l is = (told-ended (laid_of b noise words) d o d₀ o₀ (end_number l.end) l.used l.size (came (Ok l) is)).0

  pub answer-refused : (n : Refusal) → r ≡ Err (unfit.Refused n) → answer_of (laid_of b noise words) ≡ u16 (number n)
  unfolding laid_told answer_of
  answer-refused n is = ap answer_of (told-refused (laid_of b noise words) d o d₀ o₀ (number n) (came (Err (unfit.Refused n)) is))

  pub answer-large : r ≡ Err unfit.TooLarge → answer_of (laid_of b noise words) ≡ u16 65535
  unfolding laid_told answer_of
  answer-large is = ap answer_of (told-large (laid_of b noise words) d o d₀ o₀ (came (Err unfit.TooLarge) is))

-- a number that is written has two bytes, and is the answer
module _ (new out : List ℕ) (place k : ℕ) (e : pen new place ≡ laid (u16 k) (pen out 0)) where
  pub wrote-short : place ≤ 8204
  wrote-short = omega (arith, pen-place (u16 k) out 0 e, length-u16 k)

  pub wrote-number : {x : List ℕ} {n : ℕ} → x ≡ u16 n → k ≡ n → pen new place ≡ laid x (pen out 0)
  wrote-number is same = e ∙ ap (λ (l : List ℕ). laid l (pen out 0)) (ap u16 same ∙ sym is)
