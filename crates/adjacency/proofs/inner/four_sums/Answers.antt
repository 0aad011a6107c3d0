-- `adjacency::inner::four_sums` meets its contract. The invariant: the entries passed are the sums of their words, and the others are 0.
-- Assumes nothing.
use mathlib.Core.Path.{◌≡◌, refl, sym, ◌∙◌}
use Prim.Native.Nat.{◌+◌, ◌*◌, ◌/◌, ◌<◌}
use native.Mathlib.Omega.{arith}
use lib.ListN.{length, length-set}
use Rattle.adjacency.proofs.FourLaws.{made_none, made_more, made_all, sixteens-most, fours-taken}
use Rattle.adjacency.proofs.inner.four_sums.Goals as goal
use Rattle.adjacency.proofs.inner.four_sums.Goals.{After-sums-1}

pub loop-e-init : goal.loop-e-init
loop-e-init c = (refl, made_none c.args.weights.now 256)

-- an entry that is made is there
there : (c : After-sums-1) → c.loop-e.e < 256
there c = omega (arith, c.loop-e-test.true, c.requires.0)

pub four_entry-requires : goal.four_entry-requires
four_entry-requires c = (c.requires.1, there c, c.loop-e.invariant.1.0)

pub loop-e-preserved : goal.loop-e-preserved
loop-e-preserved c =
    let at = c.loop-e in
    let ws = c.args.weights.now in (
      at.invariant.0 ∙ sym (length-set at.sums at.e c.four_entry.result),
      made_more ws at.sums at.e c.four_entry.result (omega (arith, there (goal.at.loop-e-preserved c).After-sums-1, at.invariant.0)) c.four_entry.ensures at.invariant.1,
    )

pub returns : goal.returns
returns c =
    let at = c.loop-e in
    let ws = c.args.weights.now in
    let end : at.e ≡ (length ws + 3) / 4 * 16 = omega arith in (
      at.invariant.0,
      fours-taken ws at.sums (omega (arith, at.invariant.0, sixteens-most (length ws) c.requires.0))
          (made_all ws at.sums at.e (omega arith) (omega arith) at.invariant.1),
    )
