-- `records::inner::payload_of` meets its contract.
-- Assumes nothing.
use Rattle.records.proofs.RecordLaws.{payload-part}
use Rattle.records.proofs.inner.payload_of.Goals as goal

pub returns : goal.returns
returns c = payload-part _ c.u32_at-end.ensures.0
