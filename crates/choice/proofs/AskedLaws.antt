-- Laws of a choice that is asked apart from a run, and that no second answer fits. Follows docs/RULES.md, "Run" and "Refusals".
-- Assumes nothing.
use mathlib.Core.List.{List}
use mathlib.Core.Path.{◌≡◌, refl, sym, ap, ◌∙◌}
use Prim.Native.Nat.{ℕ, zero, suc, ◌%◌}
use Rattle.refusals.specs.declared.Refusal.{Refusal}
use Rattle.refusals.specs.Refusals.{answer, number}
use Rattle.adjacency.specs.Weights.{weight_sum}
use Rattle.logarithms.specs.Asked.{domain_tests, domain_refusal}
use Rattle.std.specs.Prelude.{Option, Some, None, Result, Ok, Err}
use Rattle.choice.specs.Choice.{taken}
use Rattle.choice.specs.Asked.{taken_if, choice_of, choice_told, choice_asked}
use Rattle.refusals.proofs.RefusalLaws.{number-injective, checked-accepted, checked_refused}

module _ (ws : List ℕ) (w word : ℕ) where
  pub choice_of_none : weight_sum ws w ≡ 0 → choice_of ws w word ≡ None
  unfolding choice_of taken_if
  choice_of_none e = rw e

  pub choice_of-some : (weight_sum ws w ≡ 0 → ⊥) → choice_of ws w word ≡ taken ws w (word % weight_sum ws w)
  unfolding choice_of taken_if
  choice_of-some n = go (weight_sum ws w) n
    where
      go : (s : ℕ) → (s ≡ 0 → ⊥) → taken_if s ws w word ≡ taken ws w (word % s)
      go zero n = absurd (n refl)
      go (suc s) n = refl

module _ (P : ℕ) (ws : List ℕ) (w word : ℕ) where
  pub told-refused : (r : Refusal) → domain_refusal P ws w ≡ number r → choice_told (Err r) ≡ choice_asked P ws w word
  unfolding choice_told choice_asked domain_refusal
  told-refused r e = sym (checked_refused (domain_tests P ws w) (choice_of ws w word) r e)

  module _ (accepted : domain_refusal P ws w ≡ 0) where
    asked-accepted : choice_asked P ws w word ≡ answer (choice_of ws w word)
    unfolding choice_asked domain_refusal
    asked-accepted = checked-accepted (domain_tests P ws w) (choice_of ws w word) accepted

    pub told-nothing : weight_sum ws w ≡ 0 → choice_told (Ok None) ≡ choice_asked P ws w word
    unfolding choice_told
    told-nothing z = sym (asked-accepted ∙ ap answer (choice_of_none ws w word z))

    pub told-pattern : {p : ℕ} → (weight_sum ws w ≡ 0 → ⊥) → Some p ≡ taken ws w (word % weight_sum ws w) → choice_told (Ok (Some p)) ≡ choice_asked P ws w word
    unfolding choice_told
    told-pattern n e = sym (asked-accepted ∙ ap answer (choice_of-some ws w word n ∙ sym e))

pub choice_told-injective : (a b : Result (Option ℕ) Refusal) → choice_told a ≡ choice_told b → a ≡ b
unfolding choice_told
choice_told-injective (Ok p) (Ok q) e = ap Ok (cc)
choice_told-injective (Ok p) (Err s) e = cc
choice_told-injective (Err r) (Ok q) e = cc
choice_told-injective (Err r) (Err s) e = ap Err (number-injective r s (cc))

-- two answers of `choice_of` that meet its contract are the same
pub choice_of_unique : (P : ℕ) (ws : List ℕ) (w word : ℕ) (a b : Result (Option ℕ) Refusal) → choice_told a ≡ choice_asked P ws w word → choice_told b ≡ choice_asked P ws w word → a ≡ b
choice_of_unique P ws w word a b e f = choice_told-injective a b (e ∙ sym f)
