-- `choice::choice_of` meets its contract: an accepted domain has what the sum over it and the choice need, and the two ways on are by whether that sum is 0.
-- Assumes nothing.
use mathlib.Core.Path.{◌≡◌, sym, ◌∙◌}
use native.Mathlib.Nat.{mod-lt}
use native.Mathlib.Omega.{arith}
use Rattle.std.proofs.lemmas.Result.{err_from_is_err_and}
use Rattle.adjacency.specs.Weights.{Bounded}
use Rattle.logarithms.specs.Asked.{domain_refusal}
use Rattle.refusals.proofs.RefusalLaws.{number_of-accepted, number_of-refused}
use Rattle.logarithms.proofs.AskedLaws.{domain_bounded}
use Rattle.choice.proofs.AskedLaws.{told-refused, told-nothing, told-pattern}
use Rattle.choice.proofs.choice_of.Goals as goal
use Rattle.choice.proofs.choice_of.Goals.{In_ok-check_domain}

-- where the domain is accepted
accepted : (c : In_ok-check_domain) → let a = c.args in domain_refusal a.count a.weights.now a.domain ≡ 0
accepted c = sym c.in_ok-check_domain.ensures ∙ number_of-accepted

bounded : (c : In_ok-check_domain) → let a = c.args in Bounded a.weights.now a.domain
bounded c = let a = c.args in domain_bounded a.count a.weights.now a.domain (accepted c)

pub weight_sum-sum-requires : goal.weight_sum-sum-requires
weight_sum-sum-requires c = bounded c

pub returns-then-sum-eq0 : goal.returns-then-sum-eq0
returns-then-sum-eq0 c =
    let a = c.args in
    told-nothing a.count a.weights.now a.domain a.word (accepted (goal.at.returns-then-sum-eq0 c).In_ok-check_domain) (sym c.weight_sum-sum.ensures ∙ c.if-sum-eq0.true)

pub choose-requires : goal.choose-requires
choose-requires c =
    let sum = c.weight_sum-sum in
    (bounded (goal.at.choose-requires c).In_ok-check_domain, rw (← sum.ensures) (mod-lt _ (omega (arith, c.if-sum-eq0.false))))

pub returns-in_err-check_domain : goal.returns-in_err-check_domain
returns-in_err-check_domain c =
    let a = c.args in
    let (_, e, same) = err_from_is_err_and c.from_residual.result c.from_residual.ensures.1 in
    rw (e, same) (told-refused a.count a.weights.now a.domain a.word _ (sym c.in_err-check_domain.ensures ∙ number_of-refused _))

pub returns : goal.returns
returns c =
    let a = c.args in
    let sum = c.weight_sum-sum.ensures in
    told-pattern a.count a.weights.now a.domain a.word (accepted (goal.at.returns c).In_ok-check_domain) (λ z. c.if-sum-eq0.false (sum ∙ z))
    (rw (← sum) c.choose.ensures)
