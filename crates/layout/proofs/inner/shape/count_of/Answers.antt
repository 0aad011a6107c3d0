-- `layout::inner::shape::count_of` meets its contract.
-- Assumes nothing.
use mathlib.Core.List.{List}
use mathlib.Core.Path.{ap, ◌∙◌}
use Prim.Native.Nat.{ℕ}
use Rattle.records.specs.Numbers.{u16At}
use Rattle.layout.specs.Reading.{count_in}
use Rattle.layout.proofs.ShapeLaws.{weights-length}
use Rattle.layout.proofs.inner.shape.count_of.Goals as goal

pub u16_at-requires : goal.u16_at-requires
u16_at-requires c = rw c.payload_of.ensures (weights-length _ c.requires.1).0

pub returns : goal.returns
unfolding count_in
returns c = (c.u16_at.ensures.0 ∙ ap (λ (p : List ℕ). u16At p 0) c.payload_of.ensures, c.u16_at.ensures.1)
