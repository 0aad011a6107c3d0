-- What an answer of a run tells is one to one, so no second outcome meets the contract of a run. Follows docs/RULES.md, "Run".
use mathlib.Core.List.{List}
use mathlib.Core.Path.{◌≡◌, sym, ap, ◌∙◌}
use Prim.Native.Nat.{ℕ}
use Rattle.refusals.specs.Refusals.{Asked, refused, answer}
use Rattle.forbids.specs.declared.Forbid.{Forbid}
use Rattle.course.specs.Run.{Given}
use Rattle.course.specs.Called.{Memory, End, Outcome, outcome, called_of}
use Rattle.std.specs.Prelude.{Result, Ok, Err}
use Rattle.refusals.specs.declared.Refusal.{Refusal}
use Rattle.collapse.specs.declared.Ending.{Ending}
use Rattle.collapse.specs.declared.Stop.{Stop}
use Rattle.run.specs.Answers.{answer_told}
use Rattle.refusals.proofs.RefusalLaws.{named, named-number}
use Rattle.collapse.proofs.EndingLaws.{ending, ending_number}

-- the answer that tells so
answered : Asked End → Result Stop Refusal
answered (answer e) = Ok (record { end = ending e.end; used = e.used })
answered (refused n) = Err (named n)

answered-told : (a : Result Stop Refusal) → answered (answer_told a) ≡ a
unfolding answered answer_told
answered-told (Ok stop) = ap (λ (e : Ending). Ok (record { end = e; used = stop.used })) (ending_number stop.end)
answered-told (Err r) = ap Err (named-number r)

-- an answer is told by its end and words, or its number
pub answer_told-injective : (a b : Result Stop Refusal) → answer_told a ≡ answer_told b → a ≡ b
answer_told-injective a b e = sym (answered-told a) ∙ ap answered e ∙ answered-told b

-- two outcomes that meet the contract are the same
pub run-unique : (lent : ℕ) (i : Given) (fs : List Forbid) (words : List ℕ) (m : Memory) (a b : Result Stop Refusal) (m₁ m₂ : Memory)
    → outcome (answer_told a) m₁ ≡ called_of lent i fs words m → outcome (answer_told b) m₂ ≡ called_of lent i fs words m → (a ≡ b) × (m₁ ≡ m₂)
run-unique lent i fs words m a b m₁ m₂ p q =
    (answer_told-injective a b (ap (λ (o : Outcome). o.told) (p ∙ sym q)), ap (λ (o : Outcome). o.memory) (p ∙ sym q))
