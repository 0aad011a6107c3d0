-- `faults::inner::search::list_place` meets its contract.
-- Assumes nothing.
use mathlib.Core.Path.{ap}
use Rattle.adjacency.specs.Tables.{Table}
use Rattle.faults.proofs.EndLaws.{list-some, list_none}
use Rattle.faults.proofs.inner.search.list_place.Goals as goal

pub returns-then-k-table : goal.returns-then-k-table
returns-then-k-table c =
    let count = ap (λ (t : Table). t.count) c.table.view_is in
    let a = c.args in
    list-some a.table.now c.bad_list-k.ensures (rw (← count) c.if-k-table.true)

pub returns : goal.returns
returns c =
    let count = ap (λ (t : Table). t.count) c.table.view_is in
    let a = c.args in
    list_none a.table.now c.bad_list-k.ensures (rw (← count) c.if-k-table.false)
