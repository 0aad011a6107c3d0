-- `layout::inner::shape::lists_of` meets its contract.
-- Assumes nothing.
use mathlib.Core.Path.{ap, ◌∙◌}
use Rattle.records.specs.Records.{payload_of}
use Rattle.layout.proofs.inner.shape.lists_of.Goals as goal

pub payload_of-requires : goal.payload_of-requires
payload_of-requires c = rw c.rest_of.ensures c.requires.second

pub returns : goal.returns
returns c = c.payload_of.ensures ∙ ap payload_of c.rest_of.ensures
