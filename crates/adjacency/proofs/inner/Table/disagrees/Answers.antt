-- `adjacency::inner::Table::disagrees` meets its contract. The invariant: each list passed agrees.
-- Assumes nothing.
use mathlib.Core.Bool.{not}
use mathlib.Core.Path.{sym, ap, ◌∙◌}
use Prim.Native.Nat.{◌*◌}
use native.Mathlib.Omega.{arith}
use Rattle.adjacency.specs.Tables.{Table}
use Rattle.adjacency.specs.Checks.{agrees, disagree}
use Rattle.loops.proofs.TestLaws.{all_none, all_more, all-fails, all_end}
use Rattle.adjacency.proofs.inner.Table.disagrees.Goals as goal

pub loop-k-init : goal.loop-k-init
loop-k-init c = all_none _

pub agrees_at-requires : goal.agrees_at-requires
agrees_at-requires c =
    let count = ap (λ (t : Table). t.count) c.self.view_is in
    (c.requires, omega arith, omega arith)

pub returns-then-not-agrees_at : goal.returns-then-not-agrees_at
unfolding disagree agrees
returns-then-not-agrees_at c =
    let count = ap (λ (t : Table). t.count) c.self.view_is in
    sym (ap not (all-fails _ _ (4 * c.args.self.now.count) (rw (← count) c.loop-k-test.true) (sym c.agrees_at.ensures ∙ c.if-not-agrees_at.true)))

pub loop-k-preserved : goal.loop-k-preserved
loop-k-preserved c = all_more _ _ c.loop-k.invariant (sym c.agrees_at.ensures ∙ c.if-not-agrees_at.false)

pub returns : goal.returns
unfolding disagree agrees
returns c =
    let count = ap (λ (t : Table). t.count) c.self.view_is in
    sym (ap not (all_end _ c.loop-k.k (4 * c.args.self.now.count) (rw (← count) c.loop-k.auto.k-end) (rw (← count) c.loop-k-test.false) c.loop-k.invariant))
