-- Any three floats but the NaN can be ranked by natural numbers, so that `lt` and `eq` between them are those of the numbers.
-- Assumes nothing.
use mathlib.Core.Bool.{Bool, true, false, ◌&&◌, and-true}
use mathlib.Core.Path.{◌≡◌, refl, sym, ap, ◌∙◌}
use Prim.Native.Nat.{ℕ, ◌+◌, ◌-◌, ◌*◌, ◌≤◌, ◌<◌}
use native.Mathlib.Nat.{mul_assoc, mul_comm, zero-mul, mul-le-mul_right, eq_of_mul-eq-mul_right}
use native.Mathlib.Omega.{arith}
use lib.Dec.{ltb, eqb}
use lib.Ieee.{Float, nan, inf, fin, up, down, below, level, lt, eq, is_nan}
use lib.Ieee.Positive.{num, den, den_pos}
use borrow.Author.Tests.{ltb-true, ltb-false, eqb-true, eqb-false, lt-ltb, le-ltb, eq-eqb, ne_eqb}
use Rattle.order.specs.Numbers.{Number}

-- ---- a test that is the order of two numbers

pub record Below (t : Bool) (i j : ℕ) : Type 0 where
  pub is : t ≡ ltb i j

module _ {t : Bool} {i j : ℕ} (b : Below t i j) where
  pub to_lt : t ≡ true → i < j
  to_lt h = ltb-true i j (sym b.is ∙ h)

  pub to_ge : t ≡ false → j ≤ i
  to_ge h = ltb-false i j (sym b.is ∙ h)

  pub of_lt : i < j → t ≡ true
  of_lt h = b.is ∙ lt-ltb i j h

  pub of_ge : j ≤ i → t ≡ false
  of_ge h = b.is ∙ le-ltb i j h

-- ---- two tests agree if each outcome of the one gives that of the other

pub ltb_same : (a b c d : ℕ) → (a < b → c < d) → (b ≤ a → d ≤ c) → ltb a b ≡ ltb c d
ltb_same a b c d f g = go (ltb a b) refl
  where
    go : (t : Bool) → ltb a b ≡ t → t ≡ ltb c d
    go true e = sym (lt-ltb c d (f (ltb-true a b e)))
    go false e = sym (le-ltb c d (g (ltb-false a b e)))

eqb_same : (a b c d : ℕ) → (a ≡ b → c ≡ d) → (c ≡ d → a ≡ b) → eqb a b ≡ eqb c d
eqb_same a b c d f g = go (eqb a b) refl
  where
    go : (t : Bool) → eqb a b ≡ t → t ≡ eqb c d
    go true e = sym (eq-eqb c d (f (eqb-true a b e)))
    go false e = sym (ne_eqb c d (λ h. eqb-false a b e (g h)))

-- ---- a product by k, above 0, keeps the tests
module _ (k : ℕ) (K : 0 < k) where
  up_lt : (a b : ℕ) → a < b → a * k < b * k
  up_lt a b h = omega (arith, mul-le-mul_right k h)

  up_le : (a b : ℕ) → b ≤ a → b * k ≤ a * k
  up_le a b h = mul-le-mul_right k h

  ltb-scale : (a b : ℕ) → ltb a b ≡ ltb (a * k) (b * k)
  ltb-scale a b = ltb_same a b (a * k) (b * k) (up_lt a b) (up_le a b)

  eqb-scale : (a b : ℕ) → eqb a b ≡ eqb (a * k) (b * k)
  eqb-scale a b = eqb_same a b (a * k) (b * k) (ap (λ (x : ℕ). x * k)) (eq_of_mul-eq-mul_right k K a b)

  below-scale : (s : Bool) (a : ℕ) (t : Bool) (b : ℕ) → below s a t b ≡ below s (a * k) t (b * k)
  below-scale false a false b = ltb-scale a b
  below-scale false a true b = refl
  below-scale true a false b = ltb_same 0 (a + b) 0 (a * k + b * k) (λ h. omega (arith, up_lt 0 (a + b) h)) (λ h. omega (arith, up_le 0 (a + b) h))
  below-scale true a true b = ltb-scale b a

  level-scale : (s : Bool) (a : ℕ) (t : Bool) (b : ℕ) → level s a t b ≡ level s (a * k) t (b * k)
  level-scale s a t b =
      let z : eqb a 0 ≡ eqb (a * k) 0 = eqb_same a 0 (a * k) 0 (λ h. ap (λ (x : ℕ). x * k) h ∙ zero-mul k) (λ h. eq_of_mul-eq-mul_right k K a 0 (h ∙ sym (zero-mul k))) in
      rw (eqb-scale a b, z)

-- ---- a signed number's rank: the negative ones stand below N + 1, where N is no less than any size
abbrev side : ℕ → Bool → ℕ → ℕ
side N true a = N + 1 - a
side N false a = N + 1 + a

side-low : (N : ℕ) (s : Bool) (a : ℕ) → a ≤ N → 0 < side N s a
side-low N true a h = omega arith
side-low N false a h = omega arith

side-high : (N : ℕ) (s : Bool) (a : ℕ) → a ≤ N → side N s a < 2 * N + 2
side-high N true a h = omega arith
side-high N false a h = omega arith

below-side : (N : ℕ) (s : Bool) (a : ℕ) (t : Bool) (b : ℕ) → a ≤ N → b ≤ N → below s a t b ≡ ltb (side N s a) (side N t b)
below-side N false a false b A B = ltb_same a b (N + 1 + a) (N + 1 + b) (λ h. omega arith) (λ h. omega arith)
below-side N false a true b A B = sym (le-ltb (N + 1 + a) (N + 1 - b) (omega arith))
below-side N true a false b A B = ltb_same 0 (a + b) (N + 1 - a) (N + 1 + b) (λ h. omega arith) (λ h. omega arith)
below-side N true a true b A B = ltb_same b a (N + 1 - a) (N + 1 - b) (λ h. omega arith) (λ h. omega arith)

-- two numbers of unlike signs are level only at 0
apart : (a b c d : ℕ) → (c ≡ d → a ≡ b) → (c ≡ d → a ≡ 0) → (a ≡ b → a ≡ 0 → c ≡ d) → (eqb a b && eqb a 0) ≡ eqb c d
apart a b c d f g h = go (eqb a b) refl
  where
    go : (t : Bool) → eqb a b ≡ t → (t && eqb a 0) ≡ eqb c d
    go true e = eqb_same a 0 c d (h (eqb-true a b e)) g
    go false e = sym (ne_eqb c d (λ p. eqb-false a b e (f p)))

level-side : (N : ℕ) (s : Bool) (a : ℕ) (t : Bool) (b : ℕ) → a ≤ N → b ≤ N → level s a t b ≡ eqb (side N s a) (side N t b)
level-side N false a false b A B = and-true (eqb a b) ∙ eqb_same a b (N + 1 + a) (N + 1 + b) (λ h. omega arith) (λ h. omega arith)
level-side N false a true b A B = apart a b (N + 1 + a) (N + 1 - b) (λ h. omega arith) (λ h. omega arith) (λ h z. omega arith)
level-side N true a false b A B = apart a b (N + 1 - a) (N + 1 + b) (λ h. omega arith) (λ h. omega arith) (λ h z. omega arith)
level-side N true a true b A B = and-true (eqb a b) ∙ eqb_same a b (N + 1 - a) (N + 1 - b) (λ h. omega arith) (λ h. omega arith)

-- ---- a float's rank, for a multiple p of the others' denominators
abbrev pub rank : ℕ → ℕ → Float → ℕ
rank N p nan = 0
rank N p (inf true) = 0
rank N p (inf false) = 2 * N + 2
rank N p (fin s m e) = side N s (m * up e * p)

-- `lt` and `eq` of two floats are those of two numbers
pub record Alike (x y : Float) (i j : ℕ) : Type 0 where
  pub less : lt x y ≡ ltb i j
  pub same : eq x y ≡ eqb i j

pub less-below : {x y : Float} {i j : ℕ} → Alike x y i j → Below (lt x y) i j
less-below a = record { is = a.less }

pub pair : (N k : ℕ) (x y : Float) (p q : ℕ) → Number x → Number y → 0 < k → p ≡ den y * k → q ≡ den x * k → num x * p ≤ N → num y * q ≤ N
    → Alike x y (rank N p x) (rank N q y)
unfolding lt eq is_nan
pair N k nan y p q X Y K P Q A B = absurd X
pair N k (inf s) nan p q X Y K P Q A B = absurd Y
pair N k (inf true) (inf true) p q X Y K P Q A B = record { less = refl; same = refl }
pair N k (inf true) (inf false) p q X Y K P Q A B = record { less = sym (lt-ltb 0 (2 * N + 2) (omega arith)); same = sym (ne_eqb 0 (2 * N + 2) (omega arith)) }
pair N k (inf false) (inf true) p q X Y K P Q A B = record { less = sym (le-ltb (2 * N + 2) 0 (omega arith)); same = sym (ne_eqb (2 * N + 2) 0 (omega arith)) }
pair N k (inf false) (inf false) p q X Y K P Q A B = record { less = sym (le-ltb (2 * N + 2) (2 * N + 2) (omega arith)); same = sym (eq-eqb (2 * N + 2) (2 * N + 2) refl) }
pair N k (inf true) (fin t n d) p q X Y K P Q A B =
    let r = side N t (n * up d * q) in
    record { less = sym (lt-ltb 0 r (side-low N t (n * up d * q) B)); same = sym (ne_eqb 0 r (λ h. omega (arith, side-low N t (n * up d * q) B))) }
pair N k (inf false) (fin t n d) p q X Y K P Q A B =
    let r = side N t (n * up d * q) in
    record { less = sym (le-ltb (2 * N + 2) r (omega (arith, side-high N t (n * up d * q) B))); same = sym (ne_eqb (2 * N + 2) r (λ h. omega (arith, side-high N t (n * up d * q) B))) }
pair N k (fin s m e) nan p q X Y K P Q A B = absurd Y
pair N k (fin s m e) (inf true) p q X Y K P Q A B =
    let r = side N s (m * up e * p) in
    record { less = sym (le-ltb r 0 (omega arith)); same = sym (ne_eqb r 0 (λ h. omega (arith, side-low N s (m * up e * p) A))) }
pair N k (fin s m e) (inf false) p q X Y K P Q A B =
    let r = side N s (m * up e * p) in
    record { less = sym (lt-ltb r (2 * N + 2) (side-high N s (m * up e * p) A)); same = sym (ne_eqb r (2 * N + 2) (λ h. omega (arith, side-high N s (m * up e * p) A))) }
pair N k (fin s m e) (fin t n d) p q X Y K P Q A B =
    let a = m * up e * down d in
    let b = n * up d * down e in
    let a' : m * up e * p ≡ a * k = ap (λ (z : ℕ). m * up e * z) P ∙ sym (mul_assoc (m * up e) (down d) k) in
    let b' : n * up d * q ≡ b * k = ap (λ (z : ℕ). n * up d * z) Q ∙ sym (mul_assoc (n * up d) (down e) k) in
    let A' : a * k ≤ N = rw a' at A in
    let B' : b * k ≤ N = rw b' at B in
    record {
      less = below-scale k K s a t b ∙ rw (a', b') (below-side N s (a * k) t (b * k) A' B');
      same = level-scale k K s a t b ∙ rw (a', b') (level-side N s (a * k) t (b * k) A' B');
    }

-- ---- three floats
pub record Ranks (x y z : Float) : Type 0 where
  pub i : ℕ
  pub j : ℕ
  pub k : ℕ
  pub xy : Alike x y i j
  pub yz : Alike y z j k
  pub xz : Alike x z i k

pub ranks : (x y z : Float) → Number x → Number y → Number z → Ranks x y z
ranks x y z X Y Z =
    let p = den y * den z in
    let q = den x * den z in
    let r = den x * den y in
    let N = num x * p + num y * q + num z * r in
    record {
      i = rank N p x;
      j = rank N q y;
      k = rank N r z;
      xy = pair N (den z) x y p q X Y (den_pos z) refl refl (omega arith) (omega arith);
      yz = pair N (den x) y z q r Y Z (den_pos x) (mul_comm (den x) (den z)) (mul_comm (den x) (den y)) (omega arith) (omega arith);
      xz = pair N (den y) x z p r X Z (den_pos y) (mul_comm (den y) (den z)) refl (omega arith) (omega arith);
    }

-- two, either way round
pub record Pair (x y : Float) : Type 0 where
  pub i : ℕ
  pub j : ℕ
  pub xy : Alike x y i j
  pub yx : Alike y x j i

pub both : (x y : Float) → Number x → Number y → Pair x y
both x y X Y =
    let p = den y * 1 in
    let q = den x * 1 in
    let N = num x * p + num y * q in
    record {
      i = rank N p x;
      j = rank N q y;
      xy = pair N 1 x y p q X Y (omega arith) refl refl (omega arith) (omega arith);
      yx = pair N 1 y x q p Y X (omega arith) refl refl (omega arith) (omega arith);
    }
