-- Laws of a lowered note: it is the same note or one of strictly less entropy, with the same noise word, and the lesser of the two entropies.
-- Assumes nothing.
use mathlib.Core.Bool.{Bool, true, false, cond}
use mathlib.Core.Logic.{◌⊎◌, inl, inr}
use mathlib.Core.Path.{◌≡◌, refl}
use Prim.Native.Nat.{ℕ}
use lib.Ieee.{Float, lt}
use Rattle.order.specs.Numbers.{Number}
use Rattle.notes.specs.declared.inner.Note.{Note}
use Rattle.notes.specs.Notes.{note, lowered}
use Rattle.order.proofs.OrderLaws.{lt_irreflexive, lt_asymmetric}

module _ (n : Note) (entropy : Float) (count : ℕ) where
  -- by the test that decides
  by_test : (P : Note → Type 0) → (lt entropy n.entropy ≡ true → P (note entropy n.noise count)) → (lt entropy n.entropy ≡ false → P n)
      → P (lowered n entropy count)
  unfolding lowered
  by_test P less kept = go (lt entropy n.entropy) refl
    where
      go : (t : Bool) → lt entropy n.entropy ≡ t → P (cond t (note entropy n.noise count) n)
      go true e = less e
      go false e = kept e

  pub lowered-less : lt entropy n.entropy ≡ true → lowered n entropy count ≡ note entropy n.noise count
  unfolding lowered
  lowered-less e = rw e

  pub lowered-kept : lt entropy n.entropy ≡ false → lowered n entropy count ≡ n
  unfolding lowered
  lowered-kept e = rw e

  -- the same note, or one of strictly less entropy
  pub lowered-or : (lowered n entropy count ≡ n) ⊎ (lt (lowered n entropy count).entropy n.entropy ≡ true)
  lowered-or = by_test (λ m. (m ≡ n) ⊎ (lt m.entropy n.entropy ≡ true)) (λ e. inr e) (λ e. inl refl)

  pub lowered-noise : (lowered n entropy count).noise ≡ n.noise
  lowered-noise = by_test (λ m. m.noise ≡ n.noise) (λ e. refl) (λ e. refl)

  module _ (E : Number entropy) (N : Number n.entropy) where
    pub lowered-number : Number (lowered n entropy count).entropy
    lowered-number = by_test (λ m. Number m.entropy) (λ e. E) (λ e. N)

    -- neither entropy is below the lowered one
    pub lowered-least : (lt n.entropy (lowered n entropy count).entropy ≡ false) × (lt entropy (lowered n entropy count).entropy ≡ false)
    lowered-least =
        by_test (λ m. (lt n.entropy m.entropy ≡ false) × (lt entropy m.entropy ≡ false))
        (λ e. (lt_asymmetric entropy n.entropy E N e, lt_irreflexive entropy)) (λ e. (lt_irreflexive n.entropy, e))

-- the same entropy a second time changes nothing, even with another count
pub lowered-again : (n : Note) (entropy : Float) (count count' : ℕ) → lowered (lowered n entropy count) entropy count' ≡ lowered n entropy count
lowered-again n entropy count count' =
    lowered-kept (lowered n entropy count) entropy count' (by_test n entropy count (λ m. lt entropy m.entropy ≡ false) (λ e. lt_irreflexive entropy) (λ e. e))
