-- `notes::inner::propose` meets its contract: a removal that proposes is of a weighted pattern, so there is room for a note, and leaves weight.
-- Assumes nothing.
use mathlib.Core.Path.{◌≡◌, sym, ap, ◌∙◌}
use Prim.Native.Nat.{◌≤◌}
use native.Mathlib.Omega.{arith}
use lib.Bits.{bit_and}
use lib.ListN.{length}
use Rattle.words.specs.Words.{how_many}
use Rattle.adjacency.specs.Weights.{weight_sum}
use Rattle.notes.specs.Beside.{weighted_in}
use Rattle.notes.specs.Sizes.{Roomy}
use Rattle.words.proofs.CountLaws.{many-le}
use Rattle.adjacency.proofs.WeightLaws.{weight_sum-le}
use Rattle.logarithms.proofs.LogLaws.{logs-front, logs-long}
use Rattle.notes.proofs.BesideLaws.{weighted_64, proposes-weight, proposing-some, proposing_none}
use Rattle.notes.proofs.inner.propose.Goals as goal
use Rattle.notes.proofs.inner.propose.Goals.{Then-proposes, After-sum_of-sum, After-count_ones-ones}

-- there is room, and weight is left
some : (c : Then-proposes) → let a = c.args in Roomy a.cells a.noise.now a.floats.now a.marks.now × (1 ≤ weight_sum a.weights.now a.word)
some c =
    let (weight, left) = proposes-weight c.args.weights.now c.args.pattern c.args.word (sym c.proposes.ensures ∙ c.if-proposes.true) in
    (c.requires.alongside.0.roomy c.args.pattern weight, left)

-- what is looked up
summed : (c : After-sum_of-sum) → let a = c.args in c.sum_of-sum.result ≡ weight_sum a.weights.now a.word
summed c =
    let (alongside, _, lookups) = c.requires.alongside in
    c.sum_of-sum.ensures c.args.weights.now lookups.sums_lent (rw alongside.weighed.one_each c.requires.count_bound.3)

-- what is counted
counted : (c : After-count_ones-ones) → let a = c.args in c.count_ones-ones.result ≡ weighted_in a.weights.now a.word
counted c =
    c.count_ones-ones.ensures
    ∙ ap (how_many 64) (c.shared.ensures ∙ ap (bit_and c.args.word) c.requires.alongside.1)
    ∙ weighted_64 c.requires.alongside.0.weighed c.requires.count_bound.0 c.args.word c.requires.count_bound.3

pub sum_of-sum-requires : goal.sum_of-sum-requires
sum_of-sum-requires c =
    let lookups = c.requires.alongside.2 in
    (lookups.sums_lent.in_sixteens, lookups.sums_few)

pub offset_bounds-floats-cell : goal.offset_bounds-floats-cell
offset_bounds-floats-cell c = omega (arith, (some (goal.at.offset_bounds-floats-cell c).Then-proposes).0)

pub bounds-floats-cell : goal.bounds-floats-cell
bounds-floats-cell c = omega (arith, (some (goal.at.bounds-floats-cell c).Then-proposes).0)

pub entropy_from-entropy-requires : goal.entropy_from-entropy-requires
entropy_from-entropy-requires c =
    let lent = c.requires.alongside.2.logs_lent in
    let one : 1 ≤ c.sum_of-sum.result = omega (arith, summed (goal.at.entropy_from-entropy-requires c).After-sum_of-sum, (some (goal.at.entropy_from-entropy-requires c).Then-proposes).1) in
    let few : c.sum_of-sum.result ≤ length c.args.logs.now =
    omega (arith, summed (goal.at.entropy_from-entropy-requires c).After-sum_of-sum, weight_sum-le c.args.weights.now c.args.word, c.requires.alongside.0.weighed.light, logs-long c.args.logs.now lent) in
    (logs-front c.args.logs.now lent, one, few)

pub overflow_cast-ones : goal.overflow_cast-ones
overflow_cast-ones c = omega (arith, c.count_ones-ones.ensures, many-le 64 c.shared.result)

pub update_note-requires : goal.update_note-requires
update_note-requires c =
    ((some (goal.at.update_note-requires c).Then-proposes).0, c.requires.count_bound.1, omega (arith, c.count_ones-ones.ensures, many-le 64 c.shared.result))

pub returns-then-proposes : goal.returns-then-proposes
returns-then-proposes c =
    proposing-some _ _ _ _ _ _ c.proposes.ensures _ _ c.if-proposes.true (summed (goal.at.returns-then-proposes c).After-sum_of-sum)
    c.entropy_from-entropy.ensures (counted (goal.at.returns-then-proposes c).After-count_ones-ones) c.update_note.ensures

pub returns-else-proposes : goal.returns-else-proposes
returns-else-proposes c = proposing_none _ _ _ _ _ _ c.proposes.ensures _ _ c.if-proposes.false
