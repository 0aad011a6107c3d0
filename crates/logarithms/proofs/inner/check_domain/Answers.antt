-- `logarithms::inner::check_domain` meets its contract: each way out is the first test that held.
-- Assumes nothing.
use mathlib.Core.Bool.{false}
use mathlib.Core.Path.{◌≡◌, sym, ◌∙◌}
use borrow.Author.Tests.{eq-eqb, ne_eqb}
use Rattle.refusals.specs.Refusals.{number_of}
use Rattle.adjacency.specs.Checks.{bad_count, weights_misfit, over_weight}
use Rattle.logarithms.specs.Asked.{domain_refusal}
use Rattle.adjacency.proofs.AcceptedLaws.{counted}
use Rattle.logarithms.proofs.inner.check_domain.Goals as goal
use Rattle.logarithms.proofs.inner.check_domain.Goals.{Else-bad_count, Else-weights-count, Else-over_weight}

-- what each test that was passed says
some-few : (c : Else-bad_count) → bad_count c.args.count ≡ false
some-few c = sym c.bad_count.ensures ∙ c.if-bad_count.false

one_each : (c : Else-weights-count) → let a = c.args in weights_misfit a.count a.weights.now ≡ false
unfolding weights_misfit
one_each c = rw (eq-eqb _ _ c.if-weights-count.false)

light : (c : Else-over_weight) → over_weight c.args.weights.now ≡ false
light c = sym c.over_weight.ensures ∙ c.if-over_weight.false

pub returns-then-bad_count : goal.returns-then-bad_count
unfolding domain_refusal number_of
returns-then-bad_count c = rw (sym c.bad_count.ensures ∙ c.if-bad_count.true)

pub returns-then-weights-count : goal.returns-then-weights-count
unfolding domain_refusal number_of weights_misfit
returns-then-weights-count c = rw (some-few (goal.at.returns-then-weights-count c).Else-bad_count, ne_eqb _ _ c.if-weights-count.true)

pub returns-then-over_weight : goal.returns-then-over_weight
unfolding domain_refusal number_of
returns-then-over_weight c =
    rw (some-few (goal.at.returns-then-over_weight c).Else-bad_count, one_each (goal.at.returns-then-over_weight c).Else-weights-count, sym c.over_weight.ensures ∙ c.if-over_weight.true)

pub beyond_count-requires : goal.beyond_count-requires
beyond_count-requires c = (counted _ (some-few (goal.at.beyond_count-requires c).Else-bad_count)).1

pub returns-then-beyond_count : goal.returns-then-beyond_count
unfolding domain_refusal number_of
returns-then-beyond_count c =
    rw (some-few (goal.at.returns-then-beyond_count c).Else-bad_count, one_each (goal.at.returns-then-beyond_count c).Else-weights-count, light (goal.at.returns-then-beyond_count c).Else-over_weight, sym c.beyond_count.ensures ∙ c.if-beyond_count.true)

pub returns : goal.returns
unfolding domain_refusal number_of
returns c =
    rw (some-few (goal.at.returns c).Else-bad_count, one_each (goal.at.returns c).Else-weights-count, light (goal.at.returns c).Else-over_weight, sym c.beyond_count.ensures ∙ c.if-beyond_count.false)
