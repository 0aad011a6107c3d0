-- Laws of what is kept beside the domains: when a removal proposes, what a proposal writes, and what the start of a propagation clears.
-- Follows docs/RULES.md, "Propagation".
-- Assumes nothing.
use mathlib.Core.Bool.{Bool, true, false, cond}
use mathlib.Core.List.{List, append-nil}
use mathlib.Core.Path.{◌≡◌, refl, sym, ap, ◌∙◌}
use Prim.Native.Nat.{ℕ, zero, suc, ◌+◌, ◌-◌, ◌*◌, ◌^◌, ◌≤◌, ◌<◌}
use native.Mathlib.Decide.{ℕ_discrete}
use native.Mathlib.Numerals.{add-one}
use native.Mathlib.Omega.{arith}
use lib.Bits.{bit_and, and_le_l, and_le_r}
use lib.Dec.{leb}
use lib.Ieee.{Float, nan, lt}
use lib.ListN.{length, get_or, set, take, replicate, length-set}
use lib.Pow.{pow_mono}
use lib.Seq.{get_or-set_same, get_or-set_other, length-take-le, take_all, take-set-lt, take-suc-set, append_snoc}
use borrow.Author.Tests.{le-leb, leb-true}
use Rattle.words.specs.Words.{how_many}
use Rattle.adjacency.specs.Weights.{Weighed, weight_of, weight_sum, weighted, mask}
use Rattle.logarithms.specs.Entropy.{minus, entropy}
use Rattle.notes.specs.Notes.{note, note_of, lowered}
use Rattle.notes.specs.declared.inner.Note.{Note}
use Rattle.notes.specs.Beside.{Beside, beside, beside_in, weighted_in, lessened_by, proposes, proposed, written, noted, proposing, unmarked}
use Rattle.notes.specs.Sizes.{Roomy}
use Rattle.loops.proofs.TestLaws.{both}
use Rattle.words.proofs.CountLaws.{many-width, many_none, many-zero}
use Rattle.adjacency.proofs.WeightLaws.{true-weighted, false-weighted, mask_lt, zero-weight_sum}

-- ---- the running value

pub lessened-some : (w c : ℕ) (floats : List Float) (marks : List ℕ) {x : Float} → (w ≡ 0 → ⊥) → x ≡ minus (get_or floats c nan) w
    → beside (set floats c x) marks ≡ lessened_by w c (beside floats marks)
unfolding lessened_by
lessened-some zero c floats marks n e = absurd (n refl)
lessened-some (suc w) c floats marks n e = rw e

pub lessened_none : (w c : ℕ) (floats : List Float) (marks : List ℕ) → w ≡ 0 → beside floats marks ≡ lessened_by w c (beside floats marks)
unfolding lessened_by
lessened_none w c floats marks e = rw e

-- ---- when a removal proposes

-- the code counts over 64 bits, of which a word has P
pub many_64 : {P : ℕ} {ws : List ℕ} → Weighed P ws → P ≤ 64 → (w : ℕ) → w < 2 ^ P → how_many 64 w ≡ how_many (length ws) w
many_64 {P} {ws} W few w h = many-width 64 (length ws) w (omega (arith, pow_mono {i = P} {j = 64} few)) (rw W.one_each h)

pub weighted_64 : {P : ℕ} {ws : List ℕ} → Weighed P ws → P ≤ 64 → (w : ℕ) → w < 2 ^ P → how_many 64 (bit_and w (mask ws)) ≡ weighted_in ws w
weighted_64 {P} {ws} W few w h = many_64 W few (bit_and w (mask ws)) (omega (arith, and_le_l w (mask ws)))

-- the ways through `proposes`
module _ (ws : List ℕ) (p w : ℕ) where
  pub proposes_unweighted : weight_of ws p ≡ 0 → false ≡ proposes ws p w
  unfolding proposes
  proposes_unweighted e = rw (false-weighted ws p e)

  pub proposes_none : (weight_of ws p ≡ 0 → ⊥) → bit_and w (mask ws) ≡ 0 → false ≡ proposes ws p w
  unfolding proposes
  proposes_none z e = rw (true-weighted ws p (omega arith), e, many_none (length ws))

  pub proposes-some : (weight_of ws p ≡ 0 → ⊥) → (bit_and w (mask ws) ≡ 0 → ⊥) → leb 2 (how_many (length ws) w) ≡ proposes ws p w
  unfolding proposes
  proposes-some z f = rw (true-weighted ws p (omega arith), le-leb 1 (weighted_in ws w) (some (ℕ_discrete (weighted_in ws w) 0)))
    where
      some : Dec (weighted_in ws w ≡ 0) → 1 ≤ weighted_in ws w
      some (yes e) = absurd (f (many-zero (length ws) (bit_and w (mask ws)) (omega (arith, and_le_r w (mask ws), mask_lt ws)) e))
      some (no n) = omega arith

  -- a removal that proposes is of a weighted pattern, and leaves weight
  pub proposes-weight : proposes ws p w ≡ true → (weighted ws p ≡ true) × (1 ≤ weight_sum ws w)
  unfolding proposes
  proposes-weight e =
      let (weight, rest) = both (weighted ws p) _ e in
      let left : leb 1 (weighted_in ws w) ≡ true = (both _ (leb 2 (how_many (length ws) w)) rest).0 in
      (weight, elim (ℕ_discrete (weight_sum ws w) 0) [ yes z ↦ absurd (none z (leb-true 1 _ left)) | no n ↦ omega arith ])
    where
      none : weight_sum ws w ≡ 0 → 1 ≤ weighted_in ws w → ⊥
      none z h = omega (arith, many_none (length ws), ap (how_many (length ws)) (zero-weight_sum ws w z))

-- ---- what a proposal writes

pub proposed-first : (fresh : ℕ) (old : Note) (e : Float) (m : ℕ) → fresh ≡ 0 → note e old.noise m ≡ proposed fresh old e m
unfolding proposed
proposed-first fresh old e m z = rw z

pub proposed-later : (fresh : ℕ) (old : Note) (e : Float) (m : ℕ) {n : Note} → (fresh ≡ 0 → ⊥) → n ≡ lowered old e m → n ≡ proposed fresh old e m
unfolding proposed
proposed-later zero old e m f k = absurd (f refl)
proposed-later (suc fresh) old e m f k = k

-- a note's count stays a byte
pub proposed-byte : (fresh : ℕ) (old : Note) (e : Float) (m : ℕ) {n : Note} → n ≡ proposed fresh old e m → old.count < 256 → m < 256 → n.count < 256
unfolding proposed
proposed-byte zero old e m k h l = rw k l
proposed-byte (suc fresh) old e m k h l = rw k (go (lt e old.entropy))
  where
    go : (b : Bool) → (cond b (note e old.noise m) old).count < 256
    go true = l
    go false = h

-- a note that is written is the one that is read
pub note_of-written : (noise : List ℕ) {cells c : ℕ} (n : Note) (floats : List Float) (marks : List ℕ) → Roomy cells noise floats marks → c < cells → n.noise ≡ get_or noise c 0
    → let x = written cells c n (beside floats marks) in note_of noise cells c x.floats x.marks ≡ n
unfolding written
note_of-written noise {cells} {c} n floats marks room h is =
    let valued = room.valued in
    let marked = room.marked in
    rw (
      get_or-set_same floats (cells + c) n.entropy nan (omega arith),
      get_or-set_other (set marks c n.count) (cells + c) c 1 0 (λ z. omega arith),
      get_or-set_same marks c n.count 0 (omega arith),
      ← is,
    )

pub written-noted : (noise : List ℕ) (cells c m : ℕ) (e : Float) (floats : List Float) (marks : List ℕ) {old n : Note} {x : Beside} → old ≡ note_of noise cells c floats marks
    → n ≡ proposed (get_or marks (cells + c) 0) old e m → x ≡ written cells c n (beside floats marks) → x ≡ noted noise cells c e m (beside floats marks)
unfolding noted
written-noted noise cells c m e floats marks k i w = rw (w, i, k)

module _ (ws noise : List ℕ) (cells c p w : ℕ) {b : Bool} (k : b ≡ proposes ws p w) (floats : List Float) (marks : List ℕ) where
  pub proposing-some : b ≡ true → {sum m : ℕ} {e : Float} {x : Beside} → sum ≡ weight_sum ws w → e ≡ entropy sum (get_or floats c nan) → m ≡ weighted_in ws w
      → x ≡ noted noise cells c e m (beside floats marks) → x ≡ proposing ws noise cells c p w (beside floats marks)
  unfolding proposing
  proposing-some t i j l n = rw (sym k ∙ t, n, l, j, i)

  pub proposing_none : b ≡ false → beside floats marks ≡ proposing ws noise cells c p w (beside floats marks)
  unfolding proposing
  proposing_none t = rw (sym k ∙ t)

-- ---- what the start of a propagation clears

module _ (floats : List Float) (marks : List ℕ) {i : ℕ} where
  -- one more mark is cleared
  unmarked_next : i < length marks → unmarked (i + 1) (beside floats (set marks i 0)) ≡ unmarked i (beside floats marks)
  unfolding unmarked
  unmarked_next h =
      let n : length marks - i ≡ suc (length marks - suc i) = omega arith in
      rw (length-set, add-one, take-suc-set marks i 0 h, n) (ap (beside floats) (append_snoc (take i marks) 0 (replicate (length marks - suc i) 0)))

  unmarked-all : length marks ≤ i → unmarked i (beside floats marks) ≡ beside floats marks
  unfolding unmarked
  unmarked-all h =
      let n : length marks - i ≡ 0 = omega arith in
      rw (n, take_all i marks h) (ap (beside floats) (append-nil _))

module _ (n : ℕ) (marks : List ℕ) {i : ℕ} (long : 2 * n ≤ length marks) (floats : List Float) where
  -- a turn at i
  pub unmarked-turn : i < 2 * n → unmarked (i + 1) (beside_in n floats (set marks i 0)) ≡ unmarked i (beside_in n floats marks)
  unmarked-turn h =
      ap (λ (l : List ℕ). unmarked (i + 1) (beside floats l)) (take-set-lt (2 * n) marks i 0 h)
      ∙ unmarked_next floats (take (2 * n) marks) (rw (length-take-le (2 * n) marks long) h)

  pub unmarked-end : 2 * n ≤ i → unmarked i (beside_in n floats marks) ≡ beside_in n floats marks
  unmarked-end h = unmarked-all floats (take (2 * n) marks) (rw (length-take-le (2 * n) marks long) h)
