-- `starting::settle::reduce` meets its contract: what the work list leaves, with what is kept beside the domains forgotten.
-- Assumes nothing.
use mathlib.Core.Path.{sym, ap, ◌∙◌}
use Prim.Native.Nat.{ℕ}
use native.Mathlib.Omega.{arith}
use lib.ListN.{length, length-replicate}
use Rattle.adjacency.specs.Tables.{table}
use Rattle.grid.specs.Grid.{grid}
use Rattle.consistency.specs.Worklist.{State}
use Rattle.starting.proofs.SettleLaws.{lent-given, take-zeros, alongside_none, mask_none, lookups_none, reduce-is}
use Rattle.starting.proofs.settle.reduce.Goals as goal

pub slice_bounds-propagate-end : goal.slice_bounds-propagate-end
slice_bounds-propagate-end c =
    sym (ap length (take-zeros c.args.count 64 c.requires.starting.patterns) ∙ length-replicate c.args.count 0)

pub propagate-pile-requires : goal.propagate-pile-requires
propagate-pile-requires c =
    let t = table c.args.count c.args.offsets.now c.args.ids.now in
    let g = grid c.args.width c.args.height c.args.mode in
    let zeros = take-zeros c.args.count 64 c.requires.starting.patterns in record { lent = lent-given t g c.args.domains.now c.requires.ground c.requires.starting.fit c.requires.starting c.begin-begun.auto.pending c.begin-begun.ensures; ground = c.requires.ground; alongside = (rw zeros (alongside_none c.args.count _ _ _ _ (omega (arith, c.requires.starting.cells, length-replicate {A = ℕ} 2080 0))), rw zeros (sym (mask_none c.args.count)), rw zeros (lookups_none c.args.count c.requires.starting.patterns c.logs-logs.ensures)) }

pub returns : goal.returns
returns c =
    let t = table c.args.count c.args.offsets.now c.args.ids.now in
    let g = grid c.args.width c.args.height c.args.mode in
    let e = reduce-is t g c.args.domains.now c.requires.ground c.requires.starting.fit _ _ _ c.begin-begun.ensures c.propagate-pile.ensures.0 in
    record { value = ap (λ (r : State (Unit {0})). r.empty) e; domains_after = ap (λ (r : State (Unit {0})). r.domains) e }
