-- `adjacency::inner::Table::agrees_at` meets its contract. The invariant: what is left of the list agrees exactly where the whole does.
-- Assumes nothing.
use mathlib.Core.Path.{◌≡◌, sym, ap, ◌∙◌}
use native.Mathlib.Omega.{arith}
use Rattle.loops.specs.Tests.{every, elem}
use Rattle.directions.specs.Directions.{opposite}
use Rattle.adjacency.specs.Tables.{list_of}
use Rattle.adjacency.specs.Checks.{agrees_at}
use Rattle.loops.proofs.TestLaws.{every-turn, every-stop, every-end}
use Rattle.directions.proofs.DirectionLaws.{opposite-below}
use Rattle.adjacency.proofs.ListLaws.{all_below-at}
use Rattle.adjacency.proofs.inner.Table.agrees_at.Goals as goal
use Rattle.adjacency.proofs.inner.Table.agrees_at.Goals.{After-in_list}

-- what was found of q
found : (c : After-in_list) →
    let a = c.args in
    elem a.p (list_of a.self.now c.from.result (opposite a.d)) ≡ c.in_list.result
found c =
    let back = c.opposite_of-back.ensures in
    ap (elem _) (ap (list_of _ _) (sym back) ∙ sym c.list_of.ensures) ∙ sym c.in_list.ensures

pub loop-q-init : goal.loop-q-init
unfolding agrees_at
loop-q-init c = ap (every _) c.list_of-q-items.ensures

pub list_of-requires : goal.list_of-requires
list_of-requires c =
    let a = c.args in
    let l = c.list_of-q-items in
    let (listed, hp, hd) = c.requires in (
      listed.laid,
      rw c.from.ensures (all_below-at l.result.now (rw l.ensures (listed.below a.p a.d hp hd)) _ c.loop-q-test.true),
      rw c.opposite_of-back.ensures (opposite-below a.d hd),
    )

pub returns-then-not-in_list : goal.returns-then-not-in_list
returns-then-not-in_list c =
    every-stop _ _ c.loop-q-test.true c.from.ensures (found (goal.at.returns-then-not-in_list c).After-in_list ∙ c.if-not-in_list.true) c.loop-q.invariant

pub loop-q-preserved : goal.loop-q-preserved
loop-q-preserved c =
    every-turn _ _ c.loop-q-test.true c.from.ensures (found (goal.at.loop-q-preserved c).After-in_list ∙ c.if-not-in_list.false) c.loop-q.invariant

pub returns : goal.returns
returns c = every-end _ _ {i = c.loop-q.q-index} (omega arith) c.loop-q.invariant
