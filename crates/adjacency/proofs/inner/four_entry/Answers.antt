-- `adjacency::inner::four_entry` meets its contract: no pattern, or the last one put to the others.
-- Assumes nothing.
use mathlib.Core.Path.{◌≡◌, sym}
use Prim.Native.Nat.{ℕ, ◌<◌, ◌+◌, ◌-◌, ◌*◌, ◌%◌, ◌^◌}
use native.Mathlib.Omega.{arith}
use native.Mathlib.Decide.{dec_lt}
use lib.ListN.{get_or}
use lib.Pow.{pow_mono}
use Rattle.adjacency.specs.Weights.{weight_sum}
use Rattle.adjacency.specs.Fours.{four_of}
use Rattle.adjacency.proofs.WeightLaws.{weight_sum-le}
use Rattle.adjacency.proofs.FourLaws.{four_none, four-made}
use Rattle.adjacency.proofs.inner.four_entry.Goals as goal
use Rattle.adjacency.proofs.inner.four_entry.Goals.{After-result-1}

pub returns-then-e-eq0 : goal.returns-then-e-eq0
returns-then-e-eq0 c =
    let a = c.args in
    sym (four_none a.weights.now a.e c.if-e-eq0.true)

-- the last of four patterns is one of four
few : (n : ℕ) → 2 ^ n < 16 → n < 4
few n h = elim (dec_lt n 4) [ yes l ↦ l | no m ↦ absurd (omega (arith, pow_mono {i = 4} {j = n} (omega arith))) ]

-- the entry is the sum of its word
made : (c : After-result-1) →
    let a = c.args in
    let last = c.ilog2-last.result in
    get_or a.sums.now (a.e - 1 * 2 ^ last % 2 ^ 64) 0 + c.weight_or_none-weight.result ≡ weight_sum a.weights.now (four_of a.e)
made c =
    let a = c.args in
    let last = c.ilog2-last in
    let named = last.ensures in
    four-made a.weights.now a.sums.now a.e last.result c.weight_or_none-weight.result (few last.result (omega arith)) named.power_le named.next_power_gt c.requires.2 c.weight_or_none-weight.ensures

pub overflow_add-result : goal.overflow_add-result
overflow_add-result c =
    omega (arith, made c, c.requires.0, weight_sum-le c.args.weights.now (four_of c.args.e))

pub returns : goal.returns
returns c = made c
