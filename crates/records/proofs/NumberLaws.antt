-- Laws of numbers in bytes.
-- Assumes nothing.
use mathlib.Core.List.{List, [], ◌∷◌, ◌++◌}
use mathlib.Core.Path.{◌≡◌, refl, sym, ap}
use Prim.Native.Nat.{ℕ, suc, ◌+◌, ◌*◌, ◌≤◌, ◌<◌}
use native.Mathlib.Numerals.{add-one}
use native.Mathlib.Omega.{arith}
use lib.ListN.{length, get_or, set, drop, length-drop, drop_of_length-le}
use lib.Seq.{drop-cons, sets}
use mir.Syntax.{w16, w32, w64}
use Rattle.std.specs.Int.{to_le_bytes}
use Rattle.records.specs.Numbers.{u16, u32, u64, u16s, u64s, u16At, u32_at, numbers_in}

pub length-u16 : (n : ℕ) → length (u16 n) ≡ 2
unfolding u16
length-u16 n = refl

pub length-u32 : (n : ℕ) → length (u32 n) ≡ 4
unfolding u32 u16
length-u32 n = refl

pub length-u64 : (n : ℕ) → length (u64 n) ≡ 8
unfolding u64 u32 u16
length-u64 n = refl

pub length-u16s : (ns : List ℕ) → length (u16s ns) ≡ 2 * length ns
unfolding u16s u16
length-u16s [] = refl
length-u16s (n ∷ ns) = omega (arith, length-u16s ns)

pub length-u64s : (ns : List ℕ) → length (u64s ns) ≡ 8 * length ns
unfolding u64s u64 u32 u16
length-u64s [] = refl
length-u64s (n ∷ ns) = omega (arith, length-u64s ns)

-- the words from word i on
pub u64s_next : (ns : List ℕ) (i : ℕ) → i < length ns → u64s (drop i ns) ≡ u64 (get_or ns i 0) ++ u64s (drop (i + 1) ns)
unfolding u64s
u64s_next ns i h = rw (add-one i, drop-cons ns i 0 h)

pub u64s_none : (ns : List ℕ) (i : ℕ) → length ns ≤ i → u64s (drop i ns) ≡ []
unfolding u64s
u64s_none ns i h = rw (drop_of_length-le ns h)

-- the next number of bytes that are read two by two
pub numbers_in_next : (b : List ℕ) (k : ℕ) → k + 2 ≤ length b → numbers_in (drop k b) ≡ u16At b k ∷ numbers_in (drop (k + 2) b)
unfolding numbers_in u16At
numbers_in_next b k h =
    let two : k + 2 ≡ suc (suc k) = omega arith in
    let one : k + 1 ≡ suc k = omega arith in
    rw (two, one, drop-cons b k 0 (omega arith), drop-cons b (suc k) 0 (omega arith))

-- the numbers from number i on
pub u16s_next : (ns : List ℕ) (i : ℕ) → i < length ns → u16s (drop i ns) ≡ u16 (get_or ns i 0) ++ u16s (drop (i + 1) ns)
unfolding u16s
u16s_next ns i h = rw (add-one i, drop-cons ns i 0 h)

pub u16s_none : (ns : List ℕ) (i : ℕ) → length ns ≤ i → u16s (drop i ns) ≡ []
unfolding u16s
u16s_none ns i h = rw (drop_of_length-le ns h)

-- the bytes of the library's `to_le_bytes` are those of the specification
next : {x y : ℕ} {xs ys : List ℕ} → x ≡ y → xs ≡ ys → x ∷ xs ≡ y ∷ ys
next e f = rw (e, f)

pub le_bytes-u16 : (n : ℕ) → n < 65536 → to_le_bytes w16 n ≡ u16 n
unfolding u16
le_bytes-u16 n h = next refl (next (omega arith) refl)

pub le_bytes-u32 : (n : ℕ) → n < 4294967296 → to_le_bytes w32 n ≡ u32 n
unfolding u32 u16
le_bytes-u32 n h = next (omega arith) (next (omega arith) (next (omega arith) (next (omega arith) refl)))

pub le_bytes-u64 : (n : ℕ) → n < 18446744073709551616 → to_le_bytes w64 n ≡ u64 n
unfolding u64 u32 u16
le_bytes-u64 n h =
    next (omega arith) (next (omega arith) (next (omega arith) (next (omega arith) (next (omega arith) (next (omega arith) (next (omega arith) (next (omega arith) refl)))))))

-- the number of four bytes, each worth 256 times the one before it
pub u32-bytes : (b : List ℕ) (k : ℕ)
    → get_or b k 0 + get_or b (k + 1) 0 * 256 + get_or b (k + 2) 0 * 65536 + get_or b (k + 3) 0 * 16777216 ≡ u32_at b k
unfolding u32_at u16At
u32-bytes b k =
    let e : k + 3 ≡ k + 2 + 1 = omega arith in
    rw e (omega arith)

-- a loop that reads numbers: a turn, and the end
module _ (b out : List ℕ) (i : ℕ) where
  pub read-turn : 2 * i + 2 ≤ length b → sets (set out i (u16At b (2 * i))) (i + 1) (numbers_in (drop (2 * (i + 1)) b)) ≡ sets out i (numbers_in (drop (2 * i) b))
  read-turn h =
      let k : 2 * (i + 1) ≡ 2 * i + 2 = omega arith in
      rw (k, add-one i, numbers_in_next b (2 * i) h)

  pub read-end : 2 * i ≤ length b → length b ≤ 2 * i + 1 → out ≡ sets out i (numbers_in (drop (2 * i) b))
  unfolding numbers_in
  read-end h l = ap (sets out i) (sym (none (drop (2 * i) b) (omega (arith, length-drop (2 * i) b))))
    where
      none : (l : List ℕ) → length l ≤ 1 → numbers_in l ≡ []
      none [] h = refl
      none (x ∷ []) h = refl
      none (x ∷ y ∷ l) h = absurd (omega arith)
