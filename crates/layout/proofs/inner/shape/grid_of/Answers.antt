-- `layout::inner::shape::grid_of` meets its contract.
-- Assumes nothing.
use mathlib.Core.Path.{ap, ◌∙◌}
use Rattle.records.specs.Records.{payload_of, rest_of}
use Rattle.layout.proofs.inner.shape.grid_of.Goals as goal

pub rest_of-requires-2 : goal.rest_of-requires-2
rest_of-requires-2 c = rw c.rest_of.ensures c.requires.second

pub payload_of-requires : goal.payload_of-requires
payload_of-requires c = rw (c.rest_of-2.ensures ∙ ap rest_of c.rest_of.ensures) c.requires.third

pub returns : goal.returns
returns c = c.payload_of.ensures ∙ ap payload_of (c.rest_of-2.ensures ∙ ap rest_of c.rest_of.ensures)
