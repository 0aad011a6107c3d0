-- Laws of the order by value and then by word: it is the order of natural numbers, the value's rank before the word,
-- so it is transitive, asymmetric, and what is not before stays not before. Assumes nothing.
use mathlib.Core.Bool.{Bool, true, false, ◌&&◌, ◌||◌}
use mathlib.Core.Path.{◌≡◌, refl, sym, ap}
use Prim.Native.Nat.{ℕ, suc, ◌+◌, ◌*◌, ◌≤◌, ◌<◌}
use native.Mathlib.Nat.{mul-le-mul_right, suc-mul}
use native.Mathlib.Omega.{arith}
use lib.Dec.{ltb, eqb}
use lib.Ieee.{Float}
use borrow.Author.Tests.{ltb-true, ltb-false, eqb-true, eqb-false, lt-ltb, le-ltb}
use Rattle.order.specs.Numbers.{Number}
use Rattle.order.specs.Order.{beats}
use Rattle.order.proofs.RankLaws.{Alike, Below, ranks, both, ltb_same, to_lt, to_ge, of_lt, of_ge}

-- a rank before a word, which is below K
module _ (K i n j m : ℕ) (N : n < K) (M : m < K) where
  before : (a b : ℕ) → a < b → a * K + K ≤ b * K
  before a b h = omega (arith, mul-le-mul_right K h, suc-mul a K)

  two_digits : (ltb i j || (eqb i j && ltb n m)) ≡ ltb (i * K + n) (j * K + m)
  two_digits = go (ltb i j) (eqb i j) refl refl
    where
      go : (s t : Bool) → ltb i j ≡ s → eqb i j ≡ t → (s || (t && ltb n m)) ≡ ltb (i * K + n) (j * K + m)
      go true t e f = sym (lt-ltb (i * K + n) (j * K + m) (omega (arith, before i j (ltb-true i j e))))
      go false true e f =
          let level : i * K ≡ j * K = ap (λ (x : ℕ). x * K) (eqb-true i j f) in
          ltb_same n m (i * K + n) (j * K + m) (λ h. omega arith) (λ h. omega arith)
      go false false e f =
          let above : j < i = omega (arith, ltb-false i j e, eqb-false i j f) in
          sym (le-ltb (i * K + n) (j * K + m) (omega (arith, before j i above)))

-- two floats with their words, ranked by natural numbers
beats-below : (K : ℕ) {x y : Float} {i j : ℕ} (n m : ℕ) → n < K → m < K → Alike x y i j → Below (beats x n y m) (i * K + n) (j * K + m)
unfolding beats
beats-below K {i = i} {j = j} n m N M a = record { is = rw (a.less, a.same) (two_digits K i n j m N M) }

-- three tests that are the orders of three numbers
record Chain (s t u : Bool) : Type 0 where
  i : ℕ
  j : ℕ
  k : ℕ
  ij : Below s i j
  jk : Below t j k
  ik : Below u i k

module _ (x : Float) (n : ℕ) (y : Float) (m : ℕ) (z : Float) (l : ℕ) (X : Number x) (Y : Number y) (Z : Number z) where
  beats-chain : Chain (beats x n y m) (beats y m z l) (beats x n z l)
  beats-chain =
      let K = suc (n + m + l) in
      let r = ranks x y z X Y Z in
      record {
        i = r.i * K + n;
        j = r.j * K + m;
        k = r.k * K + l;
        ij = beats-below K n m (omega arith) (omega arith) r.xy;
        jk = beats-below K m l (omega arith) (omega arith) r.yz;
        ik = beats-below K n l (omega arith) (omega arith) r.xz;
      }

  pub beats_transitive : beats x n y m ≡ true → beats y m z l ≡ true → beats x n z l ≡ true
  beats_transitive e f = let b = beats-chain in of_lt b.ik (omega (arith, to_lt b.ij e, to_lt b.jk f))

  pub beats_cotransitive : beats x n y m ≡ false → beats y m z l ≡ false → beats x n z l ≡ false
  beats_cotransitive e f = let b = beats-chain in of_ge b.ik (omega (arith, to_ge b.ij e, to_ge b.jk f))

pub beats_asymmetric : (x : Float) (n : ℕ) (y : Float) (m : ℕ) → Number x → Number y → beats x n y m ≡ true → beats y m x n ≡ false
beats_asymmetric x n y m X Y e =
    let K = suc (n + m) in
    let p = both x y X Y in
    let xy = beats-below K n m (omega arith) (omega arith) p.xy in
    of_ge (beats-below K m n (omega arith) (omega arith) p.yx) (omega (arith, to_lt xy e))
