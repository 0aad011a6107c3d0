-- `adjacency::inner::in_list` meets its contract: some id is x.
-- Assumes nothing.
use mathlib.Core.Path.{◌∙◌}
use lib.Dec.{eqb}
use Rattle.std.proofs.Common.{rules, tests}
use Rattle.std.proofs.lemmas.Iterator.{YieldsList-from_slice}
use Rattle.std.proofs.lemmas.Iterator.Search.{any_from_yields_List}
use Rattle.loops.proofs.TestLaws.{any-elem}
use Rattle.adjacency.proofs.inner.in_list.Goals as goal

pub returns : goal.returns
returns c =
    let a = c.args in
    any_from_yields_List (λ q. eqb a.x q) _ _ _ c.any.ensures.ran (YieldsList-from_slice a.list.now cc) (λ x b q k. search (rules, tests))
    ∙ any-elem a.x a.list.now
