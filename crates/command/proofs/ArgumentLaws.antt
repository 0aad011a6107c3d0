-- Laws of the arguments: a number's digits, and all arguments one after the other.
-- Assumes nothing.
use mathlib.Core.Bool.{false}
use mathlib.Core.List.{List}
use mathlib.Core.Path.{◌≡◌, sym, subst, ◌∙◌}
use Rattle.std.proofs.Common.{inl, inr}
use Prim.Native.Nat.{ℕ, ◌+◌, ◌-◌, ◌*◌, ◌^◌, ◌≤◌, ◌<◌}
use native.Mathlib.Numerals.{add-one}
use native.Mathlib.Omega.{arith}
use lib.Dec.{eqb}
use lib.ListN.{length, get_or, drop, drop_of_length-le}
use lib.Seq.{drop-cons}
use borrow.Author.Tests.{le-leb, lt-leb, lt-ltb, le-ltb}
use Rattle.std.specs.Prelude.{Option, Some, None, SomeIff, ◌⊎◌}
use Rattle.command.specs.declared.arguments.Plan.{Plan}
use Rattle.command.specs.Arguments.{digit_more, onward, read_from, number_in, empty_plan, Taken, Asked}

-- ---- numbers

module _ (value byte : ℕ) where
  pub digit-not : (byte < 48) ⊎ (57 < byte) → None ≡ digit_more value byte
  digit-not (inl h) = simp (lt-leb 48 byte h)
  digit-not (inr h) =
      let l : 48 ≤ byte = omega arith in
      simp (le-leb 48 byte l, lt-leb byte 57 h)

  module _ (l : 48 ≤ byte) (h : byte ≤ 57) where
    pub digit-over : (value * 10 < 2 ^ 32 → ⊥) → None ≡ digit_more value byte
    digit-over n =
        let over : 2 ^ 32 ≤ value * 10 + (byte - 48) = grind (arith, n) in
        simp (le-leb 48 byte l, le-leb byte 57 h, le-ltb (value * 10 + (byte - 48)) (2 ^ 32) over)

    -- the sum that is checked
    pub digit-sum : (r : Option ℕ) {tens : ℕ} {digit : ℕ} → tens ≡ value * 10 → digit ≡ byte - 48 → SomeIff r (tens + digit < 2 ^ 32) (tens + digit) → r ≡ digit_more value byte
    digit-sum None e f n =
        let over : 2 ^ 32 ≤ value * 10 + (byte - 48) = grind (arith, e, f, n) in
        simp (le-leb 48 byte l, le-leb byte 57 h, le-ltb (value * 10 + (byte - 48)) (2 ^ 32) over)
    digit-sum (Some x) e f (below, is) =
        let less : value * 10 + (byte - 48) < 2 ^ 32 = omega (arith, e, f, below) in
        let same : x ≡ value * 10 + (byte - 48) = omega (arith, e, f, is) in
        simp (le-leb 48 byte l, le-leb byte 57 h, lt-ltb (value * 10 + (byte - 48)) (2 ^ 32) less, same)

module _ (text : List ℕ) {whole : Option ℕ} where
  opened : (i value : ℕ) → i < length text → read_from (drop i text) value ≡ whole → onward (digit_more value (get_or text i 0)) (read_from (drop (i + 1) text)) ≡ whole
  unfolding read_from
  opened i value h inv = rw (add-one i) (rw (drop-cons text i 0 h) at inv)

  pub read_more : (i value next : ℕ) → i < length text → Some next ≡ digit_more value (get_or text i 0) → read_from (drop i text) value ≡ whole → read_from (drop (i + 1) text) next ≡ whole
  unfolding onward
  read_more i value next h e inv = rw (← e) at (opened i value h inv)

  pub read-stops : (i value : ℕ) → i < length text → None ≡ digit_more value (get_or text i 0) → read_from (drop i text) value ≡ whole → None ≡ whole
  unfolding onward
  read-stops i value h e inv = rw (← e) at (opened i value h inv)

  pub read-end : (i value : ℕ) → length text ≤ i → read_from (drop i text) value ≡ whole → Some value ≡ whole
  unfolding read_from
  read-end i value h inv = rw (drop_of_length-le text h) at inv

pub number_read : (text : List ℕ) (o : Option ℕ) → false ≡ eqb (length text) 0 → o ≡ read_from text 0 → o ≡ number_in text
number_read text o n e = simp (sym n) e

-- ---- all of them

pub asked_none : (from : ℕ) (p : Plan) → p ≡ empty_plan → Asked from (from - from) p
unfolding Asked
asked_none from p e =
    let nothing : 0 ≡ from - from = omega arith in
    subst (λ (n : ℕ). Asked from n p) nothing e

pub asked_more : (from i : ℕ) (q p : Plan) → from ≤ i → Asked from (i - from) q → Taken q i p → Asked from (i + 1 - from) p
unfolding Asked
asked_more from i q p h before taken =
    let one : (i - from) + 1 ≡ i + 1 - from = omega arith in
    let place : i ≡ from + (i - from) = omega arith in
    subst (λ (n : ℕ). Asked from n p) (sym (add-one (i - from)) ∙ one) (q, before, subst (λ (k : ℕ). Taken q k p) place taken)

pub asked-all : (from end i : ℕ) (p : Plan) → i - from ≤ end - from → end ≤ i → Asked from (i - from) p → Asked from (end - from) p
asked-all from end i p h h' all =
    let same : i - from ≡ end - from = omega arith in
    subst (λ (n : ℕ). Asked from n p) same all
