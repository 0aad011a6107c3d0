-- Laws of the entropy asked apart from a run: what an accepted domain is, what is answered, and that no second answer fits.
-- Assumes nothing.
use mathlib.Core.List.{List}
use mathlib.Core.Path.{◌≡◌, refl, sym, ap, ◌∙◌}
use Prim.Native.Nat.{ℕ}
use lib.Ieee.{Float}
use Rattle.refusals.specs.declared.Refusal.{Refusal}
use Rattle.refusals.specs.Refusals.{answer, number}
use Rattle.adjacency.specs.Weights.{Bounded, weight_sum}
use Rattle.std.specs.Prelude.{Option, Some, None, Result, Ok, Err}
use Rattle.logarithms.specs.Entropy.{less, entropy, entropy_of}
use Rattle.logarithms.specs.Asked.{domain_tests, domain_refusal, entropy_asked, entropy_told}
use Rattle.words.proofs.BitLaws.{beyond-false}
use Rattle.refusals.proofs.RefusalLaws.{number-injective, first-passed, checked-accepted, checked_refused}
use Rattle.logarithms.proofs.EntropyLaws.{entropy_of_none, entropy_of-some}
use Rattle.adjacency.proofs.AcceptedLaws.{counted}
use Rattle.adjacency.proofs.WeightLaws.{weighed, weighed-bounded}

module _ (P : ℕ) (ws : List ℕ) (w : ℕ) where
  -- an accepted domain has what the sum over it needs
  pub domain_bounded : domain_refusal P ws w ≡ 0 → Bounded ws w
  unfolding domain_refusal
  domain_bounded e =
      let (a, (b, (c, (d, _)))) = first-passed (domain_tests P ws w) e in
      weighed-bounded (weighed P ws b c) (counted P a).1 (beyond-false P w d)

  -- what is answered, by which way the call goes
  pub told-refused : (r : Refusal) → domain_refusal P ws w ≡ number r → entropy_told (Err r) ≡ entropy_asked P ws w
  unfolding entropy_told entropy_asked domain_refusal
  told-refused r e = sym (checked_refused (domain_tests P ws w) (entropy_of ws w) r e)

  module _ (accepted : domain_refusal P ws w ≡ 0) where
    asked-accepted : entropy_asked P ws w ≡ answer (entropy_of ws w)
    unfolding entropy_asked domain_refusal
    asked-accepted = checked-accepted (domain_tests P ws w) (entropy_of ws w) accepted

    pub told-nothing : weight_sum ws w ≡ 0 → entropy_told (Ok None) ≡ entropy_asked P ws w
    unfolding entropy_told
    told-nothing z = sym (asked-accepted ∙ ap answer (entropy_of_none ws w z))

    pub told-entropy : {e : Float} → (weight_sum ws w ≡ 0 → ⊥) → e ≡ entropy (weight_sum ws w) (less ws w) → entropy_told (Ok (Some e)) ≡ entropy_asked P ws w
    unfolding entropy_told
    told-entropy n is = sym (asked-accepted ∙ ap answer (entropy_of-some ws w n) ∙ ap (λ x. answer (Some x)) (sym is))

-- ---- no second answer fits

pub entropy_told-injective : (a b : Result (Option Float) Refusal) → entropy_told a ≡ entropy_told b → a ≡ b
unfolding entropy_told
entropy_told-injective (Ok x) (Ok y) e = ap Ok (cc)
entropy_told-injective (Ok x) (Err s) e = cc
entropy_told-injective (Err r) (Ok y) e = cc
entropy_told-injective (Err r) (Err s) e = ap Err (number-injective r s (cc))

-- two answers that meet the contract of `entropy_of` are equal
pub entropy_of_unique : (P : ℕ) (ws : List ℕ) (w : ℕ) (a b : Result (Option Float) Refusal) → entropy_told a ≡ entropy_asked P ws w → entropy_told b ≡ entropy_asked P ws w → a ≡ b
entropy_of_unique P ws w a b e f = entropy_told-injective a b (e ∙ sym f)
