-- `layout::inner::shape::weights_of` meets its contract.
-- Assumes nothing.
use mathlib.Core.Path.{ap, ◌∙◌}
use Prim.Native.Nat.{◌-◌}
use native.Mathlib.Omega.{arith}
use lib.ListN.{length, drop, length-drop}
use lib.Seq.{take_all}
use Rattle.layout.proofs.ShapeLaws.{weights-length}
use Rattle.layout.proofs.inner.shape.weights_of.Goals as goal

pub slice_bounds-result-count : goal.slice_bounds-result-count
slice_bounds-result-count c = rw c.payload_of-payload.ensures (weights-length _ c.requires.1).0

pub slice_bounds-result-start : goal.slice_bounds-result-start
slice_bounds-result-start c = rw c.payload_of-payload.ensures (weights-length _ c.requires.1).0

pub returns : goal.returns
returns c =
    let part = c.payload_of-payload.result.now in
    take_all (length part - 2) (drop 2 part) (omega (arith, length-drop 2 part)) ∙ ap (drop 2) c.payload_of-payload.ensures
