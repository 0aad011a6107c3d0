-- `records::inner::rest_of` meets its contract.
-- Assumes nothing.
use Rattle.records.proofs.RecordLaws.{rest_part}
use Rattle.records.proofs.inner.rest_of.Goals as goal

pub returns : goal.returns
returns c = rest_part _ c.u32_at-end.ensures.0
