-- `faults::inner::search::place_at` meets its contract: by the refusal.
-- Assumes nothing.
use mathlib.Core.Path.{ap, ◌∙◌}
use Rattle.adjacency.specs.Tables.{Table}
use Rattle.faults.proofs.EndLaws.{at-list, at_pair, at-forbid, at_none}
use Rattle.faults.proofs.inner.search.place_at.Goals as goal

pub returns-in-BadList : goal.returns-in-BadList
returns-in-BadList c =
    let a = c.args in
    c.list_place.ensures ∙ at-list a.refusal a.table.now a.grid a.forbids.now c.in-BadList.is

pub returns-in-Disagree : goal.returns-in-Disagree
returns-in-Disagree c =
    let a = c.args in
    c.pair_place.ensures ∙ at_pair a.refusal a.table.now a.grid a.forbids.now c.in-Disagree.is

pub returns-in-BadCell : goal.returns-in-BadCell
returns-in-BadCell c =
    let count = ap (λ (t : Table). t.count) c.table.view_is in
    let a = c.args in
    rw count at c.forbid_place.ensures ∙ at-forbid a.refusal a.table.now a.grid a.forbids.now c.in-BadCell.is

pub returns-in_default : goal.returns-in_default
returns-in_default c =
    let a = c.args in
    let other = c.in_default in
    at_none a.refusal a.table.now a.grid a.forbids.now other.not-BadList other.not-Disagree other.not-BadCell other.not-BadPattern
