-- `faults::inner::search::pair_place` meets its contract.
-- Assumes nothing.
use mathlib.Core.Path.{sym, ap, ◌∙◌}
use native.Mathlib.Omega.{arith}
use Rattle.adjacency.specs.Tables.{Table}
use Rattle.adjacency.proofs.ListLaws.{listed}
use Rattle.faults.proofs.EndLaws.{pair-bad, pair-some, pair_none}
use Rattle.faults.proofs.inner.search.pair_place.Goals as goal

pub returns-then-bad_list : goal.returns-then-bad_list
returns-then-bad_list c =
    let a = c.args in
    pair-bad a.table.now (sym c.bad_list.ensures ∙ c.if-bad_list.true)

pub one_sided-k-requires : goal.one_sided-k-requires
one_sided-k-requires c =
    let a = c.args in
    listed a.table.now c.requires.long (sym c.bad_list.ensures ∙ c.if-bad_list.false)

pub unanswered-q-requires : goal.unanswered-q-requires
unanswered-q-requires c =
    let count = ap (λ (t : Table). t.count) c.table.view_is in
    let a = c.args in
    (listed a.table.now c.requires.long (sym c.bad_list.ensures ∙ c.if-bad_list.false), omega arith, omega arith)

pub returns-then-k-table : goal.returns-then-k-table
returns-then-k-table c =
    let count = ap (λ (t : Table). t.count) c.table.view_is in
    let a = c.args in
    pair-some a.table.now (sym c.bad_list.ensures ∙ c.if-bad_list.false) c.one_sided-k.ensures (rw (← count) c.if-k-table.true) c.unanswered-q.ensures

pub returns : goal.returns
returns c =
    let count = ap (λ (t : Table). t.count) c.table.view_is in
    let a = c.args in
    pair_none a.table.now (sym c.bad_list.ensures ∙ c.if-bad_list.false) c.one_sided-k.ensures (rw (← count) c.if-k-table.false)
