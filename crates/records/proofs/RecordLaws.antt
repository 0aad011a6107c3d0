-- Laws of records: what a record at the front of bytes tells.
-- Assumes nothing.
use mathlib.Core.Bool.{Bool, true, false, ◌&&◌}
use mathlib.Core.List.{List, [], ◌∷◌}
use mathlib.Core.Path.{◌≡◌, refl, sym, ap, ◌∙◌}
use Prim.Native.Nat.{ℕ, zero, suc, ◌+◌, ◌-◌, ◌≤◌, ◌<◌}
use native.Mathlib.Omega.{arith}
use lib.Dec.{leb, eqb}
use lib.ListN.{length, get_or, take, drop, length-append, length-drop}
use lib.Seq.{take_all, get_or-drop}
use borrow.Author.Tests.{leb-true, le-leb, lt-leb, eq-eqb, ne_eqb}
use Rattle.records.specs.Numbers.{u16, u32, u16At, u32_at}
use Rattle.records.specs.Records.{head_of, record_of, begins, Framed, payload_of, rest_of}
use Rattle.records.specs.Laying.{pen, laid}
use Rattle.records.proofs.LayingLaws.{laid_then}
use Rattle.loops.proofs.TestLaws.{both}

module _ (kind : ℕ) (b : List ℕ) where
  -- the test by the outcomes of its parts
  pub begins-is : {six same two within : Bool} → leb 6 (length b) ≡ six → eqb (u16At b 4) kind ≡ same → leb 2 (u32_at b 0) ≡ two
      → leb (u32_at b 0) (length b - 4) ≡ within → begins kind b ≡ six && (same && (two && within))
  unfolding begins
  begins-is e f g h = rw (e, f, g, h)

  -- the test at each of its ends
  pub begins-short : length b < 6 → false ≡ begins kind b
  begins-short h = sym (begins-is (lt-leb 6 (length b) h) refl refl refl)

  pub begins_other : 6 ≤ length b → {r : ℕ} → r ≡ u16At b 4 → (r ≡ kind → ⊥) → false ≡ begins kind b
  begins_other h e n = sym (begins-is (le-leb 6 (length b) h) (ne_eqb (u16At b 4) kind (λ z. n (e ∙ z))) refl refl)

  module _ (h : 6 ≤ length b) {r s : ℕ} (e : r ≡ u16At b 4) (k : r ≡ kind) (f : s ≡ u32_at b 0) where
    pub begins-small : s < 2 → false ≡ begins kind b
    begins-small l = sym (begins-is (le-leb 6 (length b) h) (eq-eqb (u16At b 4) kind (sym e ∙ k)) (lt-leb 2 (u32_at b 0) (omega arith)) refl)

    pub begins-last : 2 ≤ s → leb s (length b - 4) ≡ begins kind b
    begins-last l =
        ap (λ (n : ℕ). leb n (length b - 4)) f
        ∙ sym (begins-is (le-leb 6 (length b) h) (eq-eqb (u16At b 4) kind (sym e ∙ k)) (le-leb 2 (u32_at b 0) (omega arith)) refl)

  -- what the test tells
  pub begins-framed : begins kind b ≡ true → Framed b
  unfolding begins
  begins-framed e =
      let (six, more) = both (leb 6 (length b)) _ e in
      let (same, last) = both (eqb (u16At b 4) kind) _ more in
      let (two, within) = both (leb 2 (u32_at b 0)) _ last in
      let l : 6 ≤ length b = leb-true _ _ six in
      let w : u32_at b 0 ≤ length b - 4 = leb-true _ _ within in
      record { six = l; two = leb-true _ _ two; within = omega arith }

module _ (b : List ℕ) {n : ℕ} (e : n ≡ u32_at b 0) where
  -- the parts that code takes
  pub payload-part : take (4 + n - 6) (drop 6 b) ≡ payload_of b
  unfolding payload_of
  payload-part =
      let k : 4 + n - 6 ≡ u32_at b 0 - 2 = omega arith in
      rw k

  pub rest_part : take (length b - (4 + n)) (drop (4 + n) b) ≡ rest_of b
  unfolding rest_of
  rest_part = take_all (length b - (4 + n)) (drop (4 + n) b) (omega (arith, length-drop (4 + n) b)) ∙ rw e

-- ---- written

pub length-head_of : (kind size : ℕ) → length (head_of kind size) ≡ 6
unfolding head_of u32 u16
length-head_of kind size = refl

pub length-record_of : (kind : ℕ) (payload : List ℕ) → length (record_of kind payload) ≡ 6 + length payload
unfolding record_of
length-record_of kind payload = omega (arith, length-append (head_of kind (length payload)) payload, length-head_of kind (length payload))

-- a head and its payload make a record
pub laid-record : (kind : ℕ) (payload : List ℕ) (size : ℕ) (old : List ℕ) (at : ℕ) {slice₁ slice₂ : List ℕ} {place₁ place₂ : ℕ} → size ≡ length payload
    → pen slice₁ place₁ ≡ laid (head_of kind size) (pen old at) → pen slice₂ place₂ ≡ laid payload (pen slice₁ place₁)
    → pen slice₂ place₂ ≡ laid (record_of kind payload) (pen old at)
unfolding record_of
laid-record kind payload size old at n e f = rw n at (laid_then (head_of kind size) payload old at e f)

-- ---- parts of bytes are bytes

abbrev pub Bytes : List ℕ → Type 0
Bytes l = (k : ℕ) → get_or l k 0 < 256

pub bytes_drop : (n : ℕ) (l : List ℕ) → Bytes l → Bytes (drop n l)
bytes_drop n l h k = rw (get_or-drop n l k 0) (h (n + k))

pub bytes_take : (n : ℕ) (l : List ℕ) → Bytes l → Bytes (take n l)
bytes_take zero l h k = omega arith
bytes_take (suc n) [] h k = omega arith
bytes_take (suc n) (x ∷ l) h zero = h 0
bytes_take (suc n) (x ∷ l) h (suc k) = bytes_take n l (λ i. h (suc i)) k

pub bytes-payload : (b : List ℕ) → Bytes b → Bytes (payload_of b)
unfolding payload_of
bytes-payload b h = bytes_take (u32_at b 0 - 2) (drop 6 b) (bytes_drop 6 b h)

pub bytes_rest : (b : List ℕ) → Bytes b → Bytes (rest_of b)
unfolding rest_of
bytes_rest b h = bytes_drop (4 + u32_at b 0) b h
