-- `propagation::inner::start::start::repeat_counts` meets its contract. The invariant: the counts before i are the first cell's.
-- Assumes nothing.
use mathlib.Core.Path.{sym, ap, ◌∙◌}
use Prim.Native.Nat.{ℕ, ◌-◌, ◌*◌, ◌%◌}
use native.Mathlib.Nat.{mod-eq_of_lt, mod-eq-sub-mod}
use native.Mathlib.Omega.{arith}
use lib.ListN.{get_or, length-set}
use Rattle.loops.proofs.FillLaws.{written_more}
use Rattle.propagation.proofs.inner.start.repeat_counts.Goals as goal

pub loop-i-init : goal.loop-i-init
loop-i-init c = (omega arith, omega arith, omega arith, λ k h. ap (λ (x : ℕ). get_or c.args.counts.now x 0) (sym (mod-eq_of_lt h)))

pub loop-i-preserved : goal.loop-i-preserved
loop-i-preserved c =
    let start = c.args in
    let at = c.loop-i in
    let i = at.i in
    let m = 4 * start.count in (
      omega arith,
      omega arith,
      simp length-set at.invariant.2,
      written_more (λ k. get_or start.counts.now (k % m) 0) at.counts i _ (omega arith)
          (at.invariant.3 (i - m) (omega (arith, c.requires)) ∙ ap (λ (x : ℕ). get_or start.counts.now x 0) (sym (mod-eq-sub-mod at.invariant.0))) at.invariant.3,
    )

pub shape_of-counts : goal.shape_of-counts
shape_of-counts c = c.loop-i.invariant.2

pub returns : goal.returns
returns c = λ k h. c.loop-i.invariant.3 k (omega arith)
