-- Laws of running values and entropies: a weight of 0 takes no part, a full word has the running value of all patterns,
-- a word without a weighted pattern has no entropy, and no running value and no entropy is a NaN.
-- Assumes nothing.
use mathlib.Core.Bool.{Bool, true, false, cond}
use mathlib.Core.List.{List}
use Rattle.std.specs.Prelude.{None, Some}
use Rattle.std.proofs.lemmas.Option.{same_Some, none-some}
use mathlib.Core.Path.{◌≡◌, refl, ◌∙◌, subst}
use Prim.Native.Nat.{ℕ, zero, suc, ◌+◌, ◌≤◌, ◌<◌}
use native.Mathlib.Omega.{arith}
use lib.Dec.{T, eqb}
use lib.Ieee.{Float, binary32, add, sub, div, of_int, of_bits, is_nan}
use lib.Ieee.Scale.{finite}
use lib.IntN.{pos}
use lib.ListN.{length}
use borrow.Author.Tests.{eqb-false}
use Rattle.words.specs.Words.{has, full}
use Rattle.order.specs.Numbers.{Number}
use Rattle.adjacency.specs.Weights.{weight_of, whole_weight, weight_sum}
use Rattle.logarithms.specs.Logs.{log_of}
use Rattle.logarithms.specs.Entropy.{w_log_w, plus, minus, added_at, running, missing_at, less, entropy, entropy_if, entropy_of}
use Rattle.loops.proofs.LoopLaws.{steps-keep}
use Rattle.words.proofs.BitLaws.{true-has, bit-full}
use Rattle.order.proofs.NumberLaws.{add-number, sub_number, sub-from-finite, div-number, whole-positive}
use Rattle.adjacency.proofs.WeightLaws.{weight-light, weight_sum-le}
use Rattle.logarithms.proofs.LogLaws.{log_finite, w_log_w-finite}

-- each of weights whose sum is at most 1,024 is at most 1,024
pub weight-few : (ws : List ℕ) → whole_weight ws ≤ 1024 → (p : ℕ) → weight_of ws p ≤ 1024
weight-few ws h = weight-light (record { one_each = refl; light = h })

-- ---- turn by turn

-- a weight of 0 takes no part
pub plus_none : (x : Float) → plus x 0 ≡ x
unfolding plus
plus_none x = refl

pub minus_none : (x : Float) → minus x 0 ≡ x
unfolding minus
minus_none x = refl

module _ (ws : List ℕ) (w p : ℕ) (x : Float) where
  -- a pattern of the word stays
  pub missing_at_in : has w p ≡ true → missing_at ws w p x ≡ x
  unfolding missing_at
  missing_at_in e = rw e

  -- a pattern that the word lacks is taken away
  pub missing_at-out : has w p ≡ false → missing_at ws w p x ≡ minus x (weight_of ws p)
  unfolding missing_at
  missing_at-out e = rw e

-- nothing is taken away from all patterns
pub less-full : (ws : List ℕ) → less ws (full (length ws)) ≡ running ws
unfolding less
less-full ws =
    let P = length ws in
    steps-keep (λ x. x ≡ running ws) (missing_at ws (full P)) 0 P
    (λ p x h e. missing_at_in ws (full P) p x (true-has (full P) p (bit-full P p (omega arith))) ∙ e) refl

-- ---- with and without a weighted pattern

module _ (ws : List ℕ) (w : ℕ) where
  pub entropy_of_none : weight_sum ws w ≡ 0 → entropy_of ws w ≡ None
  unfolding entropy_of entropy_if
  entropy_of_none e = rw e

  pub entropy_of-some : (weight_sum ws w ≡ 0 → ⊥) → entropy_of ws w ≡ Some (entropy (weight_sum ws w) (less ws w))
  unfolding entropy_of entropy_if
  entropy_of-some n = go (weight_sum ws w) n
    where
      go : (s : ℕ) → (s ≡ 0 → ⊥) → entropy_if s (less ws w) ≡ Some (entropy s (less ws w))
      go zero n = absurd (n refl)
      go (suc s) n = refl

-- ---- no NaN

module _ (x : Float) (w : ℕ) (X : Number x) (h : w ≤ 1024) where
  -- a weight of 0 leaves the number x, any other does to it what leaves a number
  part-number : (op : Float → Float) → ((y : Float) → T (finite y) → Number (op y)) → Number (cond (eqb w 0) x (op (w_log_w w)))
  part-number op N = go (eqb w 0) refl
    where
      go : (t : Bool) → eqb w 0 ≡ t → Number (cond t x (op (w_log_w w)))
      go true e = X
      go false e = N (w_log_w w) (w_log_w-finite w (omega (arith, eqb-false w 0 e)) h)

  pub plus-number : Number (plus x w)
  unfolding plus
  plus-number = part-number (add binary32 x) (λ y Y. add-number binary32 x y X Y)

  pub minus_number : Number (minus x w)
  unfolding minus
  minus_number = part-number (sub binary32 x) (λ y Y. sub_number binary32 x y X Y)

module _ (ws : List ℕ) (h : whole_weight ws ≤ 1024) where
  pub running-number : Number (running ws)
  unfolding running added_at of_bits is_nan
  running-number = steps-keep Number (added_at ws) 0 (length ws) (λ p x l X. plus-number x (weight_of ws p) X (weight-few ws h p)) tt

  pub less-number : (w : ℕ) → Number (less ws w)
  unfolding less
  less-number w = steps-keep Number (missing_at ws w) 0 (length ws) turn running-number
    where
      turn : (p : ℕ) (x : Float) → p < 0 + length ws → Number x → Number (missing_at ws w p x)
      turn p x l X = go (has w p) refl
        where
          go : (t : Bool) → has w p ≡ t → Number (missing_at ws w p x)
          go true e = rw (missing_at_in ws w p x e) X
          go false e = rw (missing_at-out ws w p x e) (minus_number x (weight_of ws p) X (weight-few ws h p))

pub entropy-number : (sum : ℕ) (x : Float) → 1 ≤ sum → sum ≤ 1024 → Number x → Number (entropy sum x)
unfolding entropy
entropy-number sum x p h X =
    sub-from-finite binary32 (log_of sum) (div binary32 x (of_int binary32 (pos sum))) (log_finite sum p h)
    (div-number binary32 x (of_int binary32 (pos sum)) X (whole-positive binary32 sum p (omega arith)))

pub entropy_of-number : (ws : List ℕ) (w : ℕ) (e : Float) → whole_weight ws ≤ 1024 → entropy_of ws w ≡ Some e → Number e
unfolding entropy_of entropy_if
entropy_of-number ws w e h is = go (weight_sum ws w) (omega (arith, weight_sum-le ws w)) is
  where
    go : (s : ℕ) → s ≤ 1024 → entropy_if s (less ws w) ≡ Some e → Number e
    go zero l is = absurd (none-some e is)
    go (suc s) l is = subst Number (same_Some _ e is) (entropy-number (suc s) (less ws w) (omega arith) l (less-number ws h w))
