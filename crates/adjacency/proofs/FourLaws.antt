-- Laws of weight sums looked up four patterns at a time: a sum over words that share no pattern is the sum of theirs,
-- an entry comes from one before it, and a word's sum from its fours. Follows docs/RULES.md, "Tables".
-- Assumes nothing.
use mathlib.Core.List.{List}
use mathlib.Core.Path.{◌≡◌, refl, sym, ap, ap₂, ◌∙◌, subst, subst⁻¹}
use Prim.Native.Nat.{ℕ, zero, suc, ◌+◌, ◌-◌, ◌*◌, ◌/◌, ◌%◌, ◌^◌, ◌≤◌, ◌<◌}
use native.Mathlib.Decide.{dec_lt, ℕ_discrete}
use native.Mathlib.Nat.{mul_assoc, mul_comm, add-mul, one-mul, mul-one, zero-mul, pow-succ', mul-lt-mul_of_pos_right, div-div-eq-div-mul, div-eq_of_lt, div-one}
use native.Mathlib.Omega.{arith}
use lib.Arith.{lt-one}
use lib.ListN.{length, get_or, set, take, replicate, length-take, length-replicate, get_or-replicate, get_or-eq_default}
use lib.Pow.{pow_pos, pow-add, pow_mono}
use lib.Seq.{get_or-take, get_or-set_same, get_or-set_other}
use Rattle.loops.specs.Sums.{sum_to}
use Rattle.words.specs.Words.{bit, without, alone}
use Rattle.adjacency.specs.Weights.{weight_of, weight_sum}
use Rattle.adjacency.specs.Fours.{four_of, sixteens, Fours, fours_from}
use Rattle.loops.proofs.SumLaws.{sum-ext, sum-zero}
use Rattle.words.proofs.BitLaws.{half_lt, bit-zero, bit-suc, bit_none, bit-alone, bit-alone_other, one_shl}
use Rattle.words.proofs.ChangeLaws.{without-set}
use Rattle.adjacency.proofs.WeightLaws.{weight-past, weight_sum_none, weight_sum-without}

-- ---- words that share no pattern

double : (k b : ℕ) → b * 2 ^ suc k ≡ b * 2 ^ k * 2
double k b = ap (λ (x : ℕ). b * x) (pow-succ' 2 k ∙ mul_comm 2 (2 ^ k)) ∙ sym (mul_assoc b (2 ^ k) 2)

halved : (k b : ℕ) → b * 2 ^ suc k / 2 ≡ b * 2 ^ k
halved k b = omega (arith, double k b)

-- a word that has no pattern below k
bit-low : (k b p : ℕ) → p < k → bit (b * 2 ^ k) p ≡ 0
bit-low zero b p h = absurd (omega arith)
bit-low (suc k) b zero h = omega (arith, bit-zero (b * 2 ^ suc k), double k b)
bit-low (suc k) b (suc p) h = bit-suc (b * 2 ^ suc k) p ∙ ap (λ (x : ℕ). bit x p) (halved k b) ∙ bit-low k b p (omega arith)

-- a word of k bits beside one that has none of them
bit-apart : (k a b p : ℕ) → a < 2 ^ k → bit (a + b * 2 ^ k) p ≡ bit a p + bit (b * 2 ^ k) p
bit-apart zero a b p h =
    let z : a ≡ 0 = lt-one h in
    let same : a + b * 2 ^ 0 ≡ b * 2 ^ 0 = omega arith in
    ap (λ (x : ℕ). bit x p) same ∙ omega (arith, ap (λ (x : ℕ). bit x p) z, bit_none p)
bit-apart (suc k) a b p h = go (λ p. bit-apart k (a / 2) b p (half_lt k h)) p
  where
    low : (x y a : ℕ) → x ≡ y * 2 → (a + x) % 2 ≡ a % 2 + x % 2
    low x y a e = omega arith

    half : (x y a : ℕ) → x ≡ y * 2 → (a + x) / 2 ≡ a / 2 + y
    half x y a e = omega arith

    go : ((p : ℕ) → bit (a / 2 + b * 2 ^ k) p ≡ bit (a / 2) p + bit (b * 2 ^ k) p) → (p : ℕ) → bit (a + b * 2 ^ suc k) p ≡ bit a p + bit (b * 2 ^ suc k) p
    go rest zero =
        bit-zero (a + b * 2 ^ suc k) ∙ low (b * 2 ^ suc k) (b * 2 ^ k) a (double k b) ∙ sym (ap₂ (λ (x y : ℕ). x + y) (bit-zero a) (bit-zero (b * 2 ^ suc k)))
    go rest (suc p) =
        bit-suc (a + b * 2 ^ suc k) p ∙ ap (λ (x : ℕ). bit x p) (half (b * 2 ^ suc k) (b * 2 ^ k) a (double k b)) ∙ rest p
        ∙ sym (ap₂ (λ (x y : ℕ). x + y) (bit-suc a p) (bit-suc (b * 2 ^ suc k) p ∙ ap (λ (x : ℕ). bit x p) (halved k b)))

sum_both : (n : ℕ) (f g : ℕ → ℕ) → sum_to n (λ i. f i + g i) ≡ sum_to n f + sum_to n g
unfolding sum_to
sum_both zero f g = refl
sum_both (suc n) f g = omega (arith, sum_both n f g)

-- ---- powers of sixteen

sixteen-power : (q : ℕ) → 16 ^ q ≡ 2 ^ (4 * q)
sixteen-power zero = refl
sixteen-power (suc q) =
    let next : 4 + 4 * q ≡ 4 * suc q = omega arith in
    pow-succ' 16 q ∙ ap (λ (x : ℕ). 16 * x) (sixteen-power q) ∙ sym (pow-add 2 4 (4 * q)) ∙ ap (λ (x : ℕ). 2 ^ x) next

sixteen-positive : (q : ℕ) → 0 < 16 ^ q
sixteen-positive q = subst⁻¹ (λ (x : ℕ). 0 < x) (sixteen-power q) (pow_pos (4 * q))

-- ---- weight sums

module _ (ws : List ℕ) where
  weight_sum-apart : (k a b : ℕ) → a < 2 ^ k → weight_sum ws (a + b * 2 ^ k) ≡ weight_sum ws a + weight_sum ws (b * 2 ^ k)
  unfolding weight_sum
  weight_sum-apart k a b h =
      sum-ext (length ws) (λ p. bit (a + b * 2 ^ k) p * weight_of ws p) (λ p. bit a p * weight_of ws p + bit (b * 2 ^ k) p * weight_of ws p)
      (λ p l. ap (λ (x : ℕ). x * weight_of ws p) (bit-apart k a b p h) ∙ add-mul (bit a p) (bit (b * 2 ^ k) p) (weight_of ws p))
      ∙ sum_both (length ws) (λ p. bit a p * weight_of ws p) (λ p. bit (b * 2 ^ k) p * weight_of ws p)

  weight_sum-alone : (p : ℕ) → weight_sum ws (alone p) ≡ weight_of ws p
  unfolding weight_sum alone
  weight_sum-alone p =
      elim (dec_lt p (length ws)) [
        | yes l ↦ omega (
          arith,
          weight_sum-without ws (alone p) p (bit-alone p) l,
          ap (weight_sum ws) gone,
          weight_sum_none ws,
        )
        | no n ↦ sum-zero (length ws) _ (λ q l. ap (λ (b : ℕ). b * weight_of ws q) (bit-alone_other p q (λ e. omega arith)) ∙ zero-mul (weight_of ws q)) ∙ sym (weight-past ws p (omega arith))
      ]
    where
      gone : without (alone p) p ≡ 0
      gone = omega (arith, without-set (alone p) p (bit-alone p))

  -- a four past the last pattern
  four-past : (e : ℕ) → length ws ≤ e / 16 * 4 → weight_sum ws (four_of e) ≡ 0
  unfolding weight_sum four_of
  four-past e h =
      let k = 4 * (e / 16) in
      ap (λ (x : ℕ). weight_sum ws (e % 16 * x)) (sixteen-power (e / 16))
      ∙ sum-zero (length ws) _ (λ p l. ap (λ (b : ℕ). b * weight_of ws p) (bit-low k (e % 16) p (omega arith)) ∙ zero-mul (weight_of ws p))

  -- ---- an entry from one before it

  -- a word without pattern, and the last pattern of a four put to the others
  pub four_none : (e : ℕ) → e % 16 ≡ 0 → weight_sum ws (four_of e) ≡ 0
  unfolding four_of
  four_none e z = ap (λ (m : ℕ). weight_sum ws (m * 16 ^ (e / 16))) z ∙ ap (weight_sum ws) (zero-mul (16 ^ (e / 16))) ∙ weight_sum_none ws

  pub four-last : (e last : ℕ) → last < 4 → 2 ^ last ≤ e % 16 → e % 16 < 2 * 2 ^ last
      → weight_sum ws (four_of e) ≡ weight_sum ws (four_of (e - 2 ^ last)) + weight_of ws (e / 16 * 4 + last)
  unfolding four_of alone
  four-last e last l named above =
      let q = e / 16 in
      let others = e % 16 - 2 ^ last in
      let p = q * 4 + last in
      let X = 16 ^ q in
      let power : 2 ^ last * X ≡ 2 ^ p =
      ap (λ (x : ℕ). 2 ^ last * x) (sixteen-power q) ∙ sym (pow-add 2 last (4 * q)) ∙ ap (λ (x : ℕ). 2 ^ x) (omega arith)
      in
      let both : e % 16 ≡ others + 2 ^ last = omega arith in
      let few : others < 2 ^ last = omega arith in
      let whole : e % 16 * X ≡ others * X + 1 * 2 ^ p =
      ap (λ (x : ℕ). x * X) both ∙ add-mul others (2 ^ last) X ∙ ap (λ (x : ℕ). others * X + x) (power ∙ sym (one-mul (2 ^ p)))
      in
      let small : others * X < 2 ^ p = subst (λ (x : ℕ). others * X < x) power (mul-lt-mul_of_pos_right few (sixteen-positive q)) in
      let place : (e - 2 ^ last) / 16 ≡ q = omega arith in
      let named-others : (e - 2 ^ last) % 16 ≡ others = omega arith in
      ap (weight_sum ws) whole ∙ weight_sum-apart p (others * X) 1 small
      ∙ ap₂ (λ (x y : ℕ). x + y) (ap (weight_sum ws) (sym (ap₂ (λ (m k : ℕ). m * 16 ^ k) named-others place))) (ap (weight_sum ws) (one-mul (2 ^ p)) ∙ weight_sum-alone p)

  -- as the code makes it, where the entries before it are right
  pub four-made : (l : List ℕ) (e last x : ℕ) → last < 4 → 2 ^ last ≤ e % 16 → e % 16 < 2 * 2 ^ last
      → ((i : ℕ) → i < e → get_or l i 0 ≡ weight_sum ws (four_of i)) → x ≡ weight_of ws (e / 16 * 4 + last)
      → get_or l (e - 1 * 2 ^ last % 2 ^ 64) 0 + x ≡ weight_sum ws (four_of e)
  four-made l e last x few named above before is =
      let back = one_shl 64 last (omega arith) in
      ap (λ (y : ℕ). get_or l (e - y) 0 + x) back ∙ omega (arith, four-last e last few named above, before (e - 2 ^ last) (omega (arith, pow_pos last)), is)

  -- ---- entry after entry

  -- the entries below e are right, and nothing is written from there on
  abbrev pub MadeTo : List ℕ → ℕ → Type 0
  MadeTo l e = ((i : ℕ) → i < e → get_or l i 0 ≡ weight_sum ws (four_of i)) × ((i : ℕ) → e ≤ i → get_or l i 0 ≡ 0)

  pub made_none : (n : ℕ) → MadeTo (replicate n 0) 0
  made_none n = (
    λ i h. absurd (omega arith),
    λ i h.
        elim (dec_lt i n) [
          | yes l ↦ get_or-replicate n i 0 0 l
          | no m ↦ get_or-eq_default (replicate n 0) 0 {n = i} (omega (arith, length-replicate {A = ℕ} n 0))
        ],
  )

  pub made_more : (l : List ℕ) (e x : ℕ) → e < length l → x ≡ weight_sum ws (four_of e) → MadeTo l e → MadeTo (set l e x) (e + 1)
  made_more l e x h is (below, above) = (
    λ i k.
        elim (ℕ_discrete i e) [
          | yes z ↦ rw z (get_or-set_same l e x 0 h ∙ is)
          | no n ↦ get_or-set_other l e i x 0 n ∙ below i (omega arith)
        ],
    λ i k. get_or-set_other l e i x 0 (λ z. omega arith) ∙ above i (omega arith),
  )

  -- where every pattern is among the fours that are made, all entries are right
  pub made_all : (l : List ℕ) (e : ℕ) → e % 16 ≡ 0 → 4 * length ws ≤ e → MadeTo l e → (i : ℕ) → get_or l i 0 ≡ weight_sum ws (four_of i)
  made_all l e z h (below, above) i =
      elim (dec_lt i e) [ yes k ↦ below i k | no n ↦ above i (omega arith) ∙ sym (four-past i (omega arith)) ]

  -- ---- a word by its fours

  -- the lowest four of what is left, and the rest
  four-out : (q w : ℕ) → weight_sum ws (w * 16 ^ q) ≡ weight_sum ws (w % 16 * 16 ^ q) + weight_sum ws (w / 16 * 16 ^ suc q)
  four-out q w =
      let X = 16 ^ q in
      let next : 16 ^ suc q ≡ 16 * X = pow-succ' 16 q in
      let parts : w ≡ w % 16 + w / 16 * 16 = omega arith in
      let whole : w * X ≡ w % 16 * X + w / 16 * 16 ^ suc q =
      ap (λ (x : ℕ). x * X) parts ∙ add-mul (w % 16) (w / 16 * 16) X ∙ ap (λ (x : ℕ). w % 16 * X + x) (mul_assoc (w / 16) 16 X ∙ ap (λ (x : ℕ). w / 16 * x) (sym next))
      in
      let below : w % 16 < 16 = omega arith in
      let small : w % 16 * X < 16 ^ suc q = subst⁻¹ (λ (x : ℕ). w % 16 * X < x) next (mul-lt-mul_of_pos_right below (sixteen-positive q)) in
      ap (weight_sum ws) whole
      ∙ subst⁻¹ (λ (x : ℕ). weight_sum ws (w % 16 * X + w / 16 * x) ≡ weight_sum ws (w % 16 * X) + weight_sum ws (w / 16 * x)) (sixteen-power (suc q))
      (weight_sum-apart (4 * suc q) (w % 16 * X) (w / 16) (subst (λ (x : ℕ). w % 16 * X < x) (sixteen-power (suc q)) small))

  module _ (l : List ℕ) (F : Fours ws l) where
    looked-up : (q w e v q' : ℕ) → e ≡ 16 * q + w % 16 → v ≡ w / 16 → q' ≡ suc q → e < length l → weight_sum ws (w * 16 ^ q) ≡ get_or l e 0 + weight_sum ws (v * 16 ^ q')
    unfolding four_of
    looked-up q w e v q' at rest next h =
        let named : e % 16 ≡ w % 16 = omega arith in
        let place : e / 16 ≡ q = omega arith in
        four-out q w ∙ ap₂ (λ (x y : ℕ). x + y) (sym (F.each e h ∙ ap (weight_sum ws) (ap₂ (λ (m k : ℕ). m * 16 ^ k) named place)))
        (ap (weight_sum ws) (sym (ap₂ (λ (m k : ℕ). m * 16 ^ k) rest next)))

    -- a turn: the lowest four fours
    pub fours-out : (base w : ℕ) → base % 64 ≡ 0 → base + 64 ≤ length l
        → weight_sum ws (w * 16 ^ (base / 16)) ≡ fours_from l base w + weight_sum ws (w / 65536 * 16 ^ ((base + 64) / 16))
    unfolding fours_from
    fours-out base w z h =
        let q = base / 16 in
        omega (
          arith,
          looked-up q w (base + w % 16) (w / 16) (q + 1) (omega arith) (omega arith) (omega arith) (omega arith),
          looked-up (q + 1) (w / 16) (base + 16 + w / 16 % 16) (w / 256) (q + 2) (omega arith) (omega arith) (omega arith) (omega arith),
          looked-up (q + 2) (w / 256) (base + 32 + w / 256 % 16) (w / 4096) (q + 3) (omega arith) (omega arith) (omega arith) (omega arith),
          looked-up (q + 3) (w / 4096) (base + 48 + w / 4096 % 16) (w / 65536) ((base + 64) / 16) (omega arith) (omega arith) (omega arith) (omega arith),
        )

    -- the end: nothing of the word is left past the last four
    pub fours-end : (w base : ℕ) → base % 64 ≡ 0 → length l ≤ base → w < 2 ^ length ws → weight_sum ws (w / 16 ^ (base / 16) * 16 ^ (base / 16)) ≡ 0
    fours-end w base z h inside =
        let q = base / 16 in
        let long : length ws ≤ 4 * q = omega (arith, F.all_there) in
        let small : w < 16 ^ q = subst⁻¹ (λ (x : ℕ). w < x) (sixteen-power q) (omega (arith, pow_mono long)) in
        ap (λ (x : ℕ). weight_sum ws (x * 16 ^ q)) (div-eq_of_lt small) ∙ ap (weight_sum ws) (zero-mul (16 ^ q)) ∙ weight_sum_none ws

-- ---- the loop over a word, turn by turn

-- where the fours from `base` on are still to be looked up: what is left of the word, and that the sum is right but for that
abbrev pub Halfway : List ℕ → ℕ → ℕ → ℕ → ℕ → Type 0
Halfway l word sum left base =
    (left ≡ word / 16 ^ (base / 16)) × ((ws : List ℕ) → Fours ws l → sum + weight_sum ws (left * 16 ^ (base / 16)) ≡ weight_sum ws word)

module _ (l : List ℕ) (word : ℕ) where
  pub halfway-first : Halfway l word 0 word 0
  halfway-first = (
    sym (div-one word),
    λ ws F.
        let same : weight_sum ws (word * 16 ^ (0 / 16)) ≡ weight_sum ws word = ap (weight_sum ws) (mul-one word) in
        omega arith,
  )

  pub halfway_next : (sum left base x : ℕ) → base % 64 ≡ 0 → base + 64 ≤ length l → x ≡ fours_from l base left → Halfway l word sum left base
      → Halfway l word (sum + x) (left / 65536) (base + 64)
  halfway_next sum left base x z h is (left_is, right) =
      let q = base / 16 in
      let next : q + 4 ≡ (base + 64) / 16 = omega arith in (
        ap (λ (y : ℕ). y / 65536) left_is ∙ div-div-eq-div-mul word (16 ^ q) 65536 ∙ ap (λ (y : ℕ). word / y) (sym (pow-add 16 q 4) ∙ ap (λ (y : ℕ). 16 ^ y) next),
        λ ws F. omega (arith, is, right ws F, fours-out ws l F base left z h),
      )

  pub halfway-end : (sum left base : ℕ) → base % 64 ≡ 0 → length l ≤ base → Halfway l word sum left base
      → (ws : List ℕ) → Fours ws l → word < 2 ^ length ws → sum ≡ weight_sum ws word
  halfway-end sum left base z h (left_is, right) ws F inside =
      omega (arith, right ws F, ap (λ (y : ℕ). weight_sum ws (y * 16 ^ (base / 16))) left_is, fours-end ws l F word base z h inside)

-- ---- as many entries as count

pub sixteens-most : (P : ℕ) → P ≤ 64 → sixteens P ≤ 256
unfolding sixteens
sixteens-most P h = omega arith

pub fours-taken : (ws l : List ℕ) → sixteens (length ws) ≤ length l → ((e : ℕ) → get_or l e 0 ≡ weight_sum ws (four_of e))
    → Fours ws (take (sixteens (length ws)) l)
unfolding sixteens
fours-taken ws l h each =
    let n = sixteens (length ws) in
    let long : length (take n l) ≡ n = omega (arith, length-take n l) in
    record {
      each = λ e k. get_or-take n l e 0 (omega arith) ∙ each e;
      all_there = omega arith;
      in_sixteens = omega arith;
    }
