-- `adjacency::inner::Table::lists_ok` meets its contract. The invariant: each list passed is as it must be.
-- Assumes nothing.
use mathlib.Core.Path.{◌≡◌, sym, ap, ◌∙◌}
use Prim.Native.Nat.{◌*◌}
use Rattle.adjacency.specs.Tables.{Table, list_at}
use Rattle.adjacency.specs.Checks.{list_ok, lists_ok}
use Rattle.loops.proofs.TestLaws.{all_none, all_more, all-fails, all_end}
use Rattle.adjacency.proofs.ListLaws.{list_at_of}
use Rattle.adjacency.proofs.inner.Table.lists_ok.Goals as goal
use Rattle.adjacency.proofs.inner.Table.lists_ok.Goals.{After-list_ok}

-- what was found of list k
looked : (c : After-list_ok) →
    let t = c.args.self.now in
    list_ok t.count (list_at t c.loop-k.k) ≡ c.list_ok.result
looked c =
    let count = ap (λ (t : Table). t.count) c.self.view_is in
    ap (list_ok _) (list_at_of c.args.self.now c.loop-k.k ∙ sym c.list_of.ensures) ∙ rw (← count) (sym c.list_ok.ensures)

pub loop-k-init : goal.loop-k-init
loop-k-init c = all_none _

pub returns-then-not-list_ok : goal.returns-then-not-list_ok
unfolding lists_ok
returns-then-not-list_ok c =
    let count = ap (λ (t : Table). t.count) c.self.view_is in
    sym (all-fails _ _ (4 * c.args.self.now.count) (rw (← count) c.loop-k-test.true) (looked (goal.at.returns-then-not-list_ok c).After-list_ok ∙ c.if-not-list_ok.true))

pub loop-k-preserved : goal.loop-k-preserved
loop-k-preserved c =
    all_more _ _ c.loop-k.invariant (looked (goal.at.loop-k-preserved c).After-list_ok ∙ c.if-not-list_ok.false)

pub returns : goal.returns
unfolding lists_ok
returns c =
    let count = ap (λ (t : Table). t.count) c.self.view_is in
    sym (all_end _ c.loop-k.k (4 * c.args.self.now.count) (rw (← count) c.loop-k.auto.k-end) (rw (← count) c.loop-k-test.false) c.loop-k.invariant)
