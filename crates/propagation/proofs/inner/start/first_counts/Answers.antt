-- `propagation::inner::start::start::first_counts` meets its contract. The invariant: the counts before i are as long as their lists.
-- Assumes nothing.
use mathlib.Core.Path.{◌≡◌, ap, ◌∙◌}
use Prim.Native.Nat.{ℕ, ◌/◌}
use native.Mathlib.Omega.{arith}
use lib.ListN.{length, length-set}
use Rattle.adjacency.specs.Tables.{table, list_of}
use Rattle.loops.proofs.FillLaws.{written_more}
use Rattle.directions.proofs.DirectionLaws.{opposite-below}
use Rattle.propagation.proofs.CountLaws.{first_count, first_short}
use Rattle.propagation.proofs.inner.start.first_counts.Goals as goal
use Rattle.propagation.proofs.inner.start.first_counts.Goals.{After-list_of-list}

pub loop-i-init : goal.loop-i-init
loop-i-init c = (omega arith, omega arith, λ k h. absurd (omega arith))

pub list_of-list-requires : goal.list_of-list-requires
list_of-list-requires c =
    (c.requires.0.listed.laid, omega arith, rw c.opposite_of-back.ensures (opposite-below _ (omega arith)))

-- the list that is looked up is as long as the count is to be
long : (c : After-list_of-list) →
    let a = c.args in
    length c.list_of-list.result.now ≡ first_count (table a.count a.offsets.now a.ids.now) c.loop-i.i
long c =
    let a = c.args in
    ap length c.list_of-list.ensures
    ∙ ap (λ (d : ℕ). length (list_of (table a.count a.offsets.now a.ids.now) (c.loop-i.i / 4) d)) c.opposite_of-back.ensures

pub narrow-requires : goal.narrow-requires
narrow-requires c =
    omega (arith, long c, first_short _ c.requires.0 c.loop-i.i c.loop-i-test.true)

pub loop-i-preserved : goal.loop-i-preserved
loop-i-preserved c =
    let at = c.loop-i in (
      omega arith,
      simp length-set at.invariant.1,
      written_more _ at.counts at.i _ (omega arith) (c.narrow.ensures ∙ long (goal.at.loop-i-preserved c).After-list_of-list) at.invariant.2,
    )

pub shape_of-counts : goal.shape_of-counts
shape_of-counts c = c.loop-i.invariant.1

pub returns : goal.returns
returns c = λ k h. c.loop-i.invariant.2 k (omega arith)
