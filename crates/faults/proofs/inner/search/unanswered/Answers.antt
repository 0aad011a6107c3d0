-- `faults::inner::search::unanswered` meets its contract. The invariant: the first entry that does not answer from place i on is the first of all.
-- Assumes nothing.
use mathlib.Core.Path.{◌≡◌, sym, ap, ◌∙◌}
use Prim.Native.Nat.{ℕ}
use lib.ListN.{get_or-eq_default}
use Rattle.loops.specs.Tests.{elem}
use Rattle.directions.specs.Directions.{opposite}
use Rattle.adjacency.specs.Tables.{list_of}
use Rattle.faults.specs.Places.{answers_in}
use Rattle.directions.proofs.DirectionLaws.{opposite-below}
use Rattle.adjacency.proofs.ListLaws.{all_below-at}
use Rattle.faults.proofs.SearchLaws.{search_begun, search_turn, search_stop, search_end}
use Rattle.faults.proofs.EndLaws.{unanswered-is}
use Rattle.faults.proofs.inner.search.unanswered.Goals as goal
use Rattle.faults.proofs.inner.search.unanswered.Goals.{After-in_list}

-- what was found of entry i
found : (c : After-in_list) →
    let a = c.args in
    answers_in a.table.now a.p a.d c.list_of-list.result.now c.loop-id.id-index ≡ c.in_list.result
found c =
    let a = c.args in
    let back = c.opposite_of-back.ensures in
    ap (λ (q : ℕ). elem a.p (list_of a.table.now q (opposite a.d))) (sym c.from-q.ensures)
    ∙ ap (elem _) (ap (list_of _ _) (sym back) ∙ sym c.list_of.ensures) ∙ sym c.in_list.ensures

pub list_of-list-requires : goal.list_of-list-requires
list_of-list-requires c =
    let (listed, hp, hd) = c.requires in
    (listed.laid, hp, hd)

pub opposite_of-back-requires : goal.opposite_of-back-requires
opposite_of-back-requires c = c.requires.2

pub loop-id-init : goal.loop-id-init
loop-id-init c = search_begun _ _

pub list_of-requires : goal.list_of-requires
list_of-requires c =
    let a = c.args in
    let l = c.list_of-list in
    let (listed, hp, hd) = c.requires in (
      listed.laid,
      rw c.from-q.ensures (all_below-at l.result.now (rw l.ensures (listed.below a.p a.d hp hd)) _ c.loop-id-test.true),
      rw c.opposite_of-back.ensures (opposite-below a.d hd),
    )

pub returns-then-not-in_list : goal.returns-then-not-in_list
returns-then-not-in_list c =
    unanswered-is _ _ _ c.list_of-list.ensures
    (search_stop _ _ c.loop-id.invariant c.loop-id-test.true (found (goal.at.returns-then-not-in_list c).After-in_list ∙ c.if-not-in_list.true))
    c.from-q.ensures

pub loop-id-preserved : goal.loop-id-preserved
loop-id-preserved c =
    search_turn _ _ c.loop-id.invariant c.loop-id-test.true (found (goal.at.loop-id-preserved c).After-in_list ∙ c.if-not-in_list.false)

pub returns : goal.returns
returns c =
    let l = c.list_of-list in
    unanswered-is _ _ _ l.ensures (search_end _ _ c.loop-id.invariant c.loop-id-test.false)
    (sym (get_or-eq_default l.result.now 0 c.loop-id-test.false))
