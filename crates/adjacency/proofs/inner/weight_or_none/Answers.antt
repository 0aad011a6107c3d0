-- `adjacency::inner::weight_or_none` meets its contract: a weight of at most 1,024 fits, and past the last pattern there is none.
-- Assumes nothing.
use mathlib.Core.Path.{◌≡◌}
use native.Mathlib.Omega.{arith}
use borrow.Author.Rules.{rules}
use Rattle.adjacency.specs.Weights.{weight_of}
use Rattle.adjacency.proofs.WeightLaws.{weight-whole}
use Rattle.adjacency.proofs.inner.weight_or_none.Goals as goal

pub overflow_cast-result : goal.overflow_cast-result
overflow_cast-result c =
    let a = c.args in
    let e : c.unwrap_or.result ≡ weight_of a.weights.now a.p = search rules in
    omega (arith, c.requires, weight-whole a.weights.now a.p)
