-- What is written is read back, and what is read is written back: numbers and records.
-- Assumes nothing.
use mathlib.Core.Bool.{true}
use mathlib.Core.List.{List, [], ◌∷◌, ◌++◌}
use mathlib.Core.Path.{◌≡◌, refl, sym, ap, ◌∙◌}
use Prim.Native.Nat.{ℕ, suc, ◌+◌, ◌-◌, ◌*◌, ◌/◌, ◌%◌, ◌≤◌, ◌<◌}
use native.Mathlib.Omega.{arith}
use lib.Dec.{leb, eqb}
use lib.ListN.{length, take, drop, length-append, take-append-drop}
use lib.Seq.{length-take-le, take_at, drop_at}
use borrow.Author.Tests.{le-leb, eq-eqb, eqb-true}
use Rattle.records.specs.Numbers.{u16, u32, u16s, u16At, u32_at, numbers_in}
use Rattle.records.specs.Records.{head_of, record_of, begins, payload_of, rest_of}
use Rattle.loops.proofs.TestLaws.{both}
use Rattle.records.proofs.RecordLaws.{Bytes, begins-is, begins-framed}

-- ---- numbers

-- the bytes of the number that two bytes are
low_byte : (x y : ℕ) → x < 256 → (x + 256 * y) % 256 ≡ x
low_byte x y h = omega arith

high_byte : (x y : ℕ) → x < 256 → (x + 256 * y) / 256 ≡ y
high_byte x y h = omega arith

u16-bytes : (x y : ℕ) → x < 256 → u16 (x + 256 * y) ≡ x ∷ y ∷ []
unfolding u16
u16-bytes x y h = rw (low_byte x y h, high_byte x y h)

-- a number, as its two bytes
pub u16-number : (n : ℕ) → n % 256 + 256 * (n / 256) ≡ n
u16-number n = omega arith

-- no bound is asked: what is read of a number's two bytes is the number
pub numbers_in-u16s : (ns : List ℕ) → numbers_in (u16s ns) ≡ ns
unfolding numbers_in u16s u16
numbers_in-u16s [] = refl
numbers_in-u16s (n ∷ ns) = λ j. u16-number n j ∷ numbers_in-u16s ns j

pub u16s-numbers_in : (p : List ℕ) → Bytes p → length p % 2 ≡ 0 → u16s (numbers_in p) ≡ p
unfolding numbers_in u16s
u16s-numbers_in [] h e = refl
u16s-numbers_in (x ∷ []) h e = absurd (omega arith)
u16s-numbers_in (x ∷ y ∷ p) h e =
    λ j. u16-bytes x y (h 0) j ++ u16s-numbers_in p (λ k. h (suc (suc k))) (omega arith) j

-- ---- records

module _ (kind : ℕ) (p rest : List ℕ) where
  -- a record is six bytes and its payload
  size-read : u32_at (record_of kind p ++ rest) 0 ≡ 2 + length p
  unfolding record_of head_of u32 u16 u32_at u16At
  size-read =
      let n = 2 + length p in
      omega (arith, u16-number (n % 65536), u16-number (n / 65536))

  kind-read : u16At (record_of kind p ++ rest) 4 ≡ kind
  unfolding record_of head_of u32 u16 u16At
  kind-read = u16-number kind

  whole_length : length (record_of kind p ++ rest) ≡ 6 + (length p + length rest)
  unfolding record_of head_of u32 u16
  whole_length = omega (arith, length-append p rest)

  past_head : (n : ℕ) → drop (suc (suc (suc (suc (suc (suc n)))))) (record_of kind p ++ rest) ≡ drop n (p ++ rest)
  unfolding record_of head_of u32 u16
  past_head n = refl

  pub begins-record_of : begins kind (record_of kind p ++ rest) ≡ true
  begins-record_of =
      let b = record_of kind p ++ rest in
      begins-is kind b (le-leb 6 (length b) (omega (arith, whole_length))) (eq-eqb (u16At b 4) kind kind-read) (le-leb 2 (u32_at b 0) (omega (arith, size-read)))
      (le-leb (u32_at b 0) (length b - 4) (omega (arith, size-read, whole_length)))

  pub payload_of-record_of : payload_of (record_of kind p ++ rest) ≡ p
  unfolding payload_of
  payload_of-record_of =
      let size : u32_at (record_of kind p ++ rest) 0 - 2 ≡ length p = omega (arith, size-read) in
      rw size (ap (take (length p)) (past_head 0) ∙ take_at p rest (length p) refl)

  pub rest_of-record_of : rest_of (record_of kind p ++ rest) ≡ rest
  unfolding rest_of
  rest_of-record_of =
      let size : 4 + u32_at (record_of kind p ++ rest) 0 ≡ suc (suc (suc (suc (suc (suc (length p)))))) = omega (arith, size-read) in
      rw size (past_head (length p) ∙ drop_at p rest (length p) refl)

-- six bytes, and how the rest is cut
six-back : (kind n : ℕ) (a b c d e f : ℕ) (t : List ℕ) → a < 256 → c < 256 → e < 256 → b < 256 → 2 + n ≡ a + 256 * b + 65536 * (c + 256 * d) → e + 256 * f ≡ kind → n ≤ length t
    → record_of kind (take n t) ++ drop n t ≡ a ∷ b ∷ c ∷ d ∷ e ∷ f ∷ t
unfolding record_of head_of u32
six-back kind n a b c d e f t ha hc he hb size same fits =
    let low : (2 + length (take n t)) % 65536 ≡ a + 256 * b = omega (arith, length-take-le n t fits) in
    let high : (2 + length (take n t)) / 65536 ≡ c + 256 * d = omega (arith, length-take-le n t fits) in
    rw (low, high, sym same, low_byte a b ha, high_byte a b ha, low_byte c d hc, high_byte c d hc, low_byte e f he, high_byte e f he) (ap (λ (l : List ℕ). a ∷ b ∷ c ∷ d ∷ e ∷ f ∷ l) (take-append-drop n t))

-- a record at the front of bytes is the record of its payload
pub record_of-begins : (kind : ℕ) (b : List ℕ) → Bytes b → begins kind b ≡ true → record_of kind (payload_of b) ++ rest_of b ≡ b
unfolding begins payload_of rest_of u32_at u16At
record_of-begins kind [] h e = absurd (omega (arith, (begins-framed kind [] e).six))
record_of-begins kind (a ∷ []) h e = absurd (omega (arith, (begins-framed kind (a ∷ []) e).six))
record_of-begins kind (a ∷ b ∷ []) h e = absurd (omega (arith, (begins-framed kind (a ∷ b ∷ []) e).six))
record_of-begins kind (a ∷ b ∷ c ∷ []) h e = absurd (omega (arith, (begins-framed kind (a ∷ b ∷ c ∷ []) e).six))
record_of-begins kind (a ∷ b ∷ c ∷ d ∷ []) h e = absurd (omega (arith, (begins-framed kind (a ∷ b ∷ c ∷ d ∷ []) e).six))
record_of-begins kind (a ∷ b ∷ c ∷ d ∷ x ∷ []) h e = absurd (omega (arith, (begins-framed kind (a ∷ b ∷ c ∷ d ∷ x ∷ []) e).six))
record_of-begins kind (a ∷ b ∷ c ∷ d ∷ x ∷ y ∷ t) h e =
    let whole = a ∷ b ∷ c ∷ d ∷ x ∷ y ∷ t in
    let F = begins-framed kind whole e in
    let n = u32_at whole 0 - 2 in
    let cut : 4 + u32_at whole 0 ≡ suc (suc (suc (suc (suc (suc n))))) = omega (arith, F.two) in
    rw cut
    (six-back kind n a b c d x y t (h 0) (h 2) (h 4) (h 1) (omega (arith, F.two))
    (eqb-true (u16At whole 4) kind (both (eqb (u16At whole 4) kind) _ (both (leb 6 (length whole)) _ e).1).0) (omega (arith, F.two, F.within)))
