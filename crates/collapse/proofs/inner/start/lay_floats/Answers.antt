-- `collapse::inner::start::lay_floats` meets its contract: all the first entropy, then the first half the running value.
-- Assumes nothing.
use mathlib.Core.List.{◌++◌}
use mathlib.Core.Path.{ap, ◌∙◌}
use native.Mathlib.Omega.{arith}
use lib.Ieee.{Float}
use lib.ListN.{replicate}
use Rattle.logarithms.specs.Entropy.{running}
use Rattle.collapse.proofs.StartLaws.{fill-halves}
use Rattle.collapse.proofs.inner.start.lay_floats.Goals as goal

pub running-value-requires : goal.running-value-requires
running-value-requires c = let (front, _, _, whole, reach) = c.requires.front in (front, omega (arith, whole, reach))

pub first_entropy-entropy-requires : goal.first_entropy-entropy-requires
first_entropy-entropy-requires c = let (front, few, masked, whole, reach) = c.requires.front in (front, few, masked, whole, reach, c.running-value.ensures)

pub returns : goal.returns
returns c =
    let entropy = c.first_entropy-entropy in
    let value = c.running-value in
    let n = c.args.cells in
    fill-halves value.result entropy.result n c.args.floats.now c.requires.floats_len c.fill_floats.ensures c.fill_floats-2.ensures
    ∙ ap (λ (x : Float). replicate n x ++ replicate n entropy.result) value.ensures
    ∙ ap (λ (x : Float). replicate n (running c.args.weights.now) ++ replicate n x) entropy.ensures
