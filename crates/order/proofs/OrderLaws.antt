-- Laws of the order of floats, the NaN apart: `lt` is irreflexive and transitive, `eq` is an equivalence that `lt` respects,
-- and of two values one is less or they are equal. Assumes nothing.
use mathlib.Core.Bool.{Bool, true, false, and-not_self}
use mathlib.Core.Logic.{◌⊎◌, inl, inr}
use mathlib.Core.Path.{◌≡◌, refl, sym, ◌∙◌}
use Prim.Native.Nat.{ℕ, ◌*◌, ◌≤◌, ◌<◌}
use native.Mathlib.Nat.{le_refl}
use native.Mathlib.Omega.{arith}
use lib.Ieee.{Float, nan, inf, fin, up, down, lt, eq}
use borrow.Author.Tests.{eqb-true, eq-eqb, le-ltb}
use Rattle.order.specs.Numbers.{Number}
use Rattle.order.proofs.RankLaws.{Alike, ranks, both, less-below, to_lt, to_ge, of_lt, of_ge}

-- from the floats' tests to the numbers, and back
module _ {x y : Float} {i j : ℕ} (a : Alike x y i j) where
  lt-rank : lt x y ≡ true → i < j
  lt-rank = to_lt (less-below a)

  ge-rank : lt x y ≡ false → j ≤ i
  ge-rank = to_ge (less-below a)

  eq-rank : eq x y ≡ true → i ≡ j
  eq-rank h = eqb-true i j (sym a.same ∙ h)

  rank_lt : i < j → lt x y ≡ true
  rank_lt = of_lt (less-below a)

  rank-ge : j ≤ i → lt x y ≡ false
  rank-ge = of_ge (less-below a)

  rank-eq : i ≡ j → eq x y ≡ true
  rank-eq h = a.same ∙ eq-eqb i j h

-- nothing is below itself, the NaN too
pub lt_irreflexive : (x : Float) → lt x x ≡ false
unfolding lt
lt_irreflexive nan = refl
lt_irreflexive (inf s) = and-not_self s
lt_irreflexive (fin false m e) = le-ltb (m * up e * down e) (m * up e * down e) (le_refl (m * up e * down e))
lt_irreflexive (fin true m e) = le-ltb (m * up e * down e) (m * up e * down e) (le_refl (m * up e * down e))

pub eq_reflexive : (x : Float) → Number x → eq x x ≡ true
eq_reflexive x X = let p = both x x X X in rank-eq p.xy (omega (arith, ge-rank p.xy (lt_irreflexive x), ge-rank p.yx (lt_irreflexive x)))

module _ (x y : Float) (X : Number x) (Y : Number y) where
  pub lt_asymmetric : lt x y ≡ true → lt y x ≡ false
  lt_asymmetric h = let p = both x y X Y in rank-ge p.yx (omega (arith, lt-rank p.xy h))

  pub eq_symmetric : eq x y ≡ true → eq y x ≡ true
  eq_symmetric h = let p = both x y X Y in rank-eq p.yx (sym (eq-rank p.xy h))

  pub eq_of_neither : lt x y ≡ false → lt y x ≡ false → eq x y ≡ true
  eq_of_neither h k = let p = both x y X Y in rank-eq p.xy (omega (arith, ge-rank p.xy h, ge-rank p.yx k))

  pub total : (lt x y ≡ true) ⊎ ((eq x y ≡ true) ⊎ (lt y x ≡ true))
  total = go (lt x y) (lt y x) refl refl
    where
      go : (s t : Bool) → lt x y ≡ s → lt y x ≡ t → (lt x y ≡ true) ⊎ ((eq x y ≡ true) ⊎ (lt y x ≡ true))
      go true t e f = inl e
      go false true e f = inr (inr f)
      go false false e f = inr (inl (eq_of_neither e f))

module _ (x y z : Float) (X : Number x) (Y : Number y) (Z : Number z) where
  pub lt_transitive : lt x y ≡ true → lt y z ≡ true → lt x z ≡ true
  lt_transitive h k = let r = ranks x y z X Y Z in rank_lt r.xz (omega (arith, lt-rank r.xy h, lt-rank r.yz k))

  pub lt_cotransitive : lt x y ≡ false → lt y z ≡ false → lt x z ≡ false
  lt_cotransitive h k = let r = ranks x y z X Y Z in rank-ge r.xz (omega (arith, ge-rank r.xy h, ge-rank r.yz k))

  pub eq_transitive : eq x y ≡ true → eq y z ≡ true → eq x z ≡ true
  eq_transitive h k = let r = ranks x y z X Y Z in rank-eq r.xz (eq-rank r.xy h ∙ eq-rank r.yz k)

  pub lt-eq : lt x y ≡ true → eq y z ≡ true → lt x z ≡ true
  lt-eq h k = let r = ranks x y z X Y Z in rank_lt r.xz (omega (arith, lt-rank r.xy h, eq-rank r.yz k))

  pub eq-lt : eq x y ≡ true → lt y z ≡ true → lt x z ≡ true
  eq-lt h k = let r = ranks x y z X Y Z in rank_lt r.xz (omega (arith, eq-rank r.xy h, lt-rank r.yz k))
