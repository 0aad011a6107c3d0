-- `logarithms::entropy_of` meets its contract: an accepted domain has what the sum over it needs, and the two ways on are by whether that sum is 0.
-- Assumes nothing.
use mathlib.Core.Path.{◌≡◌, sym, ◌∙◌}
use Prim.Native.Nat.{◌≤◌}
use native.Mathlib.Omega.{arith}
use Rattle.std.proofs.lemmas.Result.{err_from_is_err_and}
use Rattle.adjacency.specs.Weights.{Bounded}
use Rattle.logarithms.specs.Asked.{domain_refusal}
use Rattle.refusals.proofs.RefusalLaws.{number_of-accepted, number_of-refused}
use Rattle.adjacency.proofs.WeightLaws.{weight_sum-le}
use Rattle.logarithms.proofs.LogLaws.{logs-front, logs-long}
use Rattle.logarithms.proofs.AskedLaws.{domain_bounded, told-refused, told-nothing, told-entropy}
use Rattle.logarithms.proofs.entropy_of.Goals as goal
use Rattle.logarithms.proofs.entropy_of.Goals.{In_ok-check_domain}

-- where the domain is accepted
accepted : (c : In_ok-check_domain) → let a = c.args in domain_refusal a.count a.weights.now a.domain ≡ 0
accepted c = sym c.in_ok-check_domain.ensures ∙ number_of-accepted

bounded : (c : In_ok-check_domain) → let a = c.args in Bounded a.weights.now a.domain
bounded c = let a = c.args in domain_bounded a.count a.weights.now a.domain (accepted c)

pub weight_sum-sum-requires : goal.weight_sum-sum-requires
weight_sum-sum-requires c = bounded c

pub returns-then-sum-eq0 : goal.returns-then-sum-eq0
returns-then-sum-eq0 c =
    let a = c.args in
    told-nothing a.count a.weights.now a.domain (accepted (goal.at.returns-then-sum-eq0 c).In_ok-check_domain) (sym c.weight_sum-sum.ensures ∙ c.if-sum-eq0.true)

pub less-requires : goal.less-requires
less-requires c = (c.logs-logs.ensures, bounded (goal.at.less-requires c).In_ok-check_domain)

pub entropy_from-requires : goal.entropy_from-requires
entropy_from-requires c =
    let a = c.args in
    let sum = c.weight_sum-sum in
    let some : 1 ≤ sum.result = omega (arith, c.if-sum-eq0.false) in
    let few : sum.result ≤ 1024 = omega (arith, sum.ensures, weight_sum-le a.weights.now a.domain, (bounded (goal.at.entropy_from-requires c).In_ok-check_domain).light) in
    let whole = c.logs-logs in
    (logs-front whole.result whole.ensures, some, omega (arith, few, logs-long whole.result whole.ensures))

pub returns : goal.returns
returns c =
    let a = c.args in
    let sum = c.weight_sum-sum.ensures in
    told-entropy a.count a.weights.now a.domain (accepted (goal.at.returns c).In_ok-check_domain) (λ z. c.if-sum-eq0.false (sum ∙ z))
    (rw (← sum, ← c.less.ensures) c.entropy_from.ensures)

pub returns-in_err-check_domain : goal.returns-in_err-check_domain
returns-in_err-check_domain c =
    let a = c.args in
    let (_, e, same) = err_from_is_err_and c.from_residual.result c.from_residual.ensures.1 in
    rw (e, same) (told-refused a.count a.weights.now a.domain _ (sym c.in_err-check_domain.ensures ∙ number_of-refused _))
