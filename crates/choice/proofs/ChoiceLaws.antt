-- Laws of the choice: a number below the weight sum takes the pattern in whose share of the sum it falls, which is a weighted pattern of the word;
-- and the walk from one pattern of the word to the next. Follows docs/RULES.md, "Run".
-- Assumes nothing.
use mathlib.Core.Bool.{Bool, true, false, cond}
use mathlib.Core.List.{List}
use Rattle.std.specs.Prelude.{Option, None, Some}
use mathlib.Core.Path.{◌≡◌, refl, sym, ap, ◌∙◌, subst}
use Prim.Native.Nat.{ℕ, zero, suc, ◌+◌, ◌-◌, ◌*◌, ◌^◌, ◌≤◌, ◌<◌, suc-le-suc}
use native.Mathlib.Decide.{ℕ_discrete}
use native.Mathlib.Nat.{add-zero, zero-add, sub-zero, sub-add-eq, zero-mul, one-mul, le_antisymm, le_of_suc-le-suc, lt_of_not-le}
use native.Mathlib.Omega.{arith}
use lib.Dec.{ltb}
use lib.ListN.{length}
use borrow.Author.Tests.{ltb-true, ltb-false}
use Rattle.loops.specs.Sums.{sum_to}
use Rattle.words.specs.Words.{bit, without, least}
use Rattle.adjacency.specs.Weights.{Bounded, weight_of, weight_sum}
use Rattle.choice.specs.Choice.{weight_in, taken_from, taken}
use Rattle.loops.proofs.SumLaws.{sum-at, sum-up_to, sum-zero}
use Rattle.words.proofs.BitLaws.{bit_not}
use Rattle.words.proofs.ChangeLaws.{bit-without, bit-without_other, without-le}
use Rattle.words.proofs.LeastLaws.{least-below, least-found}
use Rattle.adjacency.proofs.WeightLaws.{weight-inside, weight_sum_none, weight_sum-without}

-- ---- the weight of a pattern in a word

module _ (ws : List ℕ) (w p : ℕ) where
  weight_in-set : bit w p ≡ 1 → weight_in ws w p ≡ weight_of ws p
  weight_in-set e = rw e (one-mul (weight_of ws p))

  weight_in-unset : bit w p ≡ 0 → weight_in ws w p ≡ 0
  weight_in-unset e = rw e (zero-mul (weight_of ws p))

-- ---- a pattern's share of the weight sum

-- what the patterns of the word below p weigh
abbrev pub weight_below : List ℕ → ℕ → ℕ → ℕ
weight_below ws w p = sum_to p (weight_in ws w)

-- r falls in the share of pattern p: the patterns below p do not weigh more than r, and with p they do
pub record Falls (ws : List ℕ) (w r p : ℕ) : Type 0 where
  pub from : weight_below ws w p ≤ r
  pub past : r < weight_below ws w (suc p)

module _ (ws : List ℕ) (w r : ℕ) where
  -- what is taken of the patterns below `end`: the one in whose share r falls, and none where they weigh no more than r
  abbrev Told : ℕ → Option ℕ → Type 0
  Told end None = weight_below ws w end ≤ r
  Told end (Some p) = Falls ws w r p

  told-from : (n p : ℕ) → weight_below ws w p ≤ r → Told (p + n) (taken_from ws w n p (r - weight_below ws w p))
  unfolding taken_from sum_to
  told-from zero p h = rw (add-zero p) h
  told-from (suc n) p h = go (ltb (r - weight_below ws w p) (weight_in ws w p)) refl (told-from n (suc p))
    where
      go : (t : Bool) → ltb (r - weight_below ws w p) (weight_in ws w p) ≡ t
          → (weight_below ws w (suc p) ≤ r → Told (suc p + n) (taken_from ws w n (suc p) (r - weight_below ws w (suc p))))
          → Told (p + suc n) (cond t (Some p) (taken_from ws w n (suc p) (r - weight_below ws w p - weight_in ws w p)))
      go true t rest = record { from = h; past = omega (arith, ltb-true) }
      go false t rest =
          let e : p + suc n ≡ suc p + n = omega arith in
          rw (e, ← sub-add-eq r (weight_below ws w p) (weight_in ws w p)) (rest (omega (arith, ltb-false)))

  told : Told (length ws) (taken ws w r)
  unfolding taken sum_to
  told = rw (zero-add, sub-zero) at (told-from (length ws) 0 (omega arith))

  -- a number below the sum takes a pattern
  pub taken-some : r < weight_sum ws w → (p : ℕ) × (taken ws w r ≡ Some p)
  unfolding weight_sum
  taken-some l = go (taken ws w r) refl told
    where
      go : (o : Option ℕ) → taken ws w r ≡ o → Told (length ws) o → (p : ℕ) × (taken ws w r ≡ Some p)
      go None e h = absurd (omega arith)
      go (Some p) e h = (p, e)

  module _ (p : ℕ) where
    -- the pattern that is taken is the one in whose share the number falls
    pub taken-falls : taken ws w r ≡ Some p → Falls ws w r p
    taken-falls e = subst (Told (length ws)) e told

    -- that pattern is in the word and has weight
    falls_in : Falls ws w r p → (bit w p ≡ 1) × (0 < weight_of ws p)
    unfolding sum_to
    falls_in f =
        elim (ℕ_discrete (bit w p) 1) [
          | yes e ↦ (e, omega (arith, weight_in-set ws w p e))
          | no n ↦ absurd (omega (arith, weight_in-unset ws w p (bit_not w p n)))
        ]

    pub taken_in : taken ws w r ≡ Some p → (bit w p ≡ 1) × (0 < weight_of ws p)
    taken_in e = falls_in (taken-falls e)

  -- no number falls in two shares
  falls-once : (p q : ℕ) → Falls ws w r p → Falls ws w r q → q ≤ p
  falls-once p q f g = le_of_suc-le-suc (lt_of_not-le (λ h. omega (arith, sum-up_to (suc p) q (weight_in ws w) h)))

  pub falls-taken : (p : ℕ) → Falls ws w r p → taken ws w r ≡ Some p
  unfolding weight_sum
  falls-taken p f =
      let l = weight-inside ws p (falls_in p f).1 in
      let (q, e) = taken-some (omega (arith, sum-up_to (suc p) (length ws) (weight_in ws w) l)) in
      let g = taken-falls q e in
      e ∙ ap Some (le_antisymm (falls-once p q f g) (falls-once q p g f))

-- ---- the walk from one pattern of the word to the next

-- p is the least pattern of the word
module _ (ws : List ℕ) (w r p : ℕ) (at : bit w p ≡ 1) (first : (q : ℕ) → q < p → bit w q ≡ 0) where
  none_below : weight_below ws w p ≡ 0
  none_below = sum-zero p (weight_in ws w) (λ q l. weight_in-unset ws w q (first q l))

  -- its weight is greater: it is taken
  pub taken_here : r < weight_of ws p → taken ws w r ≡ Some p
  unfolding sum_to
  taken_here l = falls-taken ws w r p (record { from = omega (arith, none_below); past = omega (arith, none_below, weight_in-set ws w p at) })

  -- without p the patterns up to n weigh that much less
  weight_below-without : (n : ℕ) → p < n → weight_below ws w n ≡ weight_below ws (without w p) n + weight_of ws p
  weight_below-without n l =
      omega (
        arith,
        sum-at n (weight_in ws w) (weight_in ws (without w p)) p l (λ q k d. ap (λ (b : ℕ). b * weight_of ws q) (sym (bit-without_other w p q d))),
        weight_in-set ws w p at,
        weight_in-unset ws (without w p) p (bit-without w p),
      )

  -- its weight is not: the walk goes on without it, with a number that is less by that weight
  pub taken-on : r < weight_sum ws w → weight_of ws p ≤ r → taken ws w r ≡ taken ws (without w p) (r - weight_of ws p)
  unfolding sum_to
  taken-on l h =
      let (q, e) = taken-some ws w r l in
      let f = taken-falls ws w r q e in
      let later : p < q = lt_of_not-le (λ k. omega (arith, none_below, weight_in-set ws w p at, sum-up_to (suc q) (suc p) (weight_in ws w) (suc-le-suc k))) in
      e ∙ sym (falls-taken ws (without w p) (r - weight_of ws p) q (record { from = omega (arith, weight_below-without q later); past = omega (arith, weight_below-without (suc q) (omega arith)) }))

-- the walk has come to the least pattern p of the word that is left, with r left of the number
pub record Walked (ws : List ℕ) (word number left r p : ℕ) : Type 0 where
  pub inside : left < 2 ^ length ws
  pub next : p ≡ least 64 left
  pub low : r < weight_sum ws left
  pub same : taken ws left r ≡ taken ws word number

pub walked_start : {ws : List ℕ} {word number p : ℕ} → Bounded ws word → number < weight_sum ws word → p ≡ least 64 word → Walked ws word number word number p
walked_start b l e = record { inside = b.inside; next = e; low = l; same = refl }

module _ {ws : List ℕ} {word number left r p : ℕ} (few : length ws ≤ 64) (s : Walked ws word number left r p) where
  -- there is such a pattern
  pub walked_at : (p < length ws) × (bit left p ≡ 1)
  walked_at = rw s.next (least-found 64 (length ws) left few s.inside (λ z. omega (arith, s.low, ap (weight_sum ws) z, weight_sum_none ws)))

  none_before : (q : ℕ) → q < p → bit left q ≡ 0
  none_before q l = least-below 64 left q (rw s.next at l)

  pub walked_on : {left' p' : ℕ} → weight_of ws p ≤ r → left' ≡ without left p → p' ≡ least 64 left' → Walked ws word number left' (r - weight_of ws p) p'
  walked_on h e f =
      rw e (record {
        inside = omega (arith, without-le left p, s.inside);
        next = rw e at f;
        low = omega (arith, s.low, weight_sum-without ws left p walked_at.1 walked_at.0);
        same = sym (taken-on ws left r p walked_at.1 none_before s.low h) ∙ s.same;
      })

  pub walked_end : r < weight_of ws p → Some p ≡ taken ws word number
  walked_end h = sym (taken_here ws left r p walked_at.1 none_before h) ∙ s.same
