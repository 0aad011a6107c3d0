-- Laws of the outcome of a propagation of starting domains, by which way the call goes: refused, all is as it was; accepted, it is what the work list leaves.
-- Follows docs/RULES.md, "Propagation" and "Refusals". Assumes nothing.
use mathlib.Core.Bool.{Bool, true, false}
use mathlib.Core.List.{List}
use mathlib.Core.Path.{◌≡◌, refl, sym, ap, ◌∙◌}
use Prim.Native.Nat.{ℕ, zero, suc}
use lib.ListN.{length}
use Rattle.refusals.specs.declared.Refusal.{Refusal}
use Rattle.refusals.specs.Refusals.{number, refused, answer}
use Rattle.adjacency.specs.Tables.{Table}
use Rattle.grid.specs.Grid.{Grid}
use Rattle.std.specs.Prelude.{Ok, Err}
use Rattle.starting.specs.declared.Propagated.TheVariants.{Consistent, Contradiction}
use Rattle.starting.specs.Propagate.{propagate_refusal, propagated_told, outcome, outcome_at, propagate_of}
use Rattle.refusals.proofs.RefusalLaws.{number-positive}

module _ (t : Table) (g : Grid) (D counts pending : List ℕ) where
  pub outcome-refused : (r : Refusal) → propagate_refusal t g D (length counts) (length pending) ≡ number r
      → propagate_of t g D counts pending ≡ outcome (refused (number r)) D counts pending
  unfolding propagate_of outcome_at
  outcome-refused r e = ap (λ (n : ℕ). outcome_at n t g D counts pending) e ∙ go (number r) (number-positive r)
    where
      go : (n : ℕ) → (n ≡ 0 → ⊥) → outcome_at n t g D counts pending ≡ outcome (refused n) D counts pending
      go zero h = absurd (h refl)
      go (suc n) h = refl

  pub told-refused : (r : Refusal) → propagate_refusal t g D (length counts) (length pending) ≡ number r
      → outcome (propagated_told (Err r)) D counts pending ≡ propagate_of t g D counts pending
  unfolding propagated_told
  told-refused r e = sym (outcome-refused r e)

  module _ (e : propagate_refusal t g D (length counts) (length pending) ≡ 0) where
    pub outcome-accepted : propagate_of t g D counts pending ≡ outcome_at 0 t g D counts pending
    unfolding propagate_of
    outcome-accepted = ap (λ (n : ℕ). outcome_at n t g D counts pending) e

    module _ {empty : Bool} {D' counts' pending' : List ℕ} (is : outcome (answer empty) D' counts' pending' ≡ outcome_at 0 t g D counts pending) where
      pub told-empty : empty ≡ true → outcome (propagated_told (Ok Contradiction)) D' counts' pending' ≡ propagate_of t g D counts pending
      unfolding propagated_told
      told-empty h = ap (λ (b : Bool). outcome (answer b) D' counts' pending') (sym h) ∙ is ∙ sym outcome-accepted

      pub told-whole : empty ≡ false → outcome (propagated_told (Ok Consistent)) D' counts' pending' ≡ propagate_of t g D counts pending
      unfolding propagated_told
      told-whole h = ap (λ (b : Bool). outcome (answer b) D' counts' pending') (sym h) ∙ is ∙ sym outcome-accepted
