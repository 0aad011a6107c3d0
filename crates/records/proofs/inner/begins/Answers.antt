-- `records::inner::begins` meets its contract.
-- Assumes nothing.
use Rattle.records.proofs.RecordLaws.{begins-short, begins_other, begins-small, begins-last}
use Rattle.records.proofs.inner.begins.Goals as goal

pub returns-then-bytes-lt6 : goal.returns-then-bytes-lt6
returns-then-bytes-lt6 c = begins-short _ _ c.if-bytes-lt6.true

pub returns-then-u16_at-kind : goal.returns-then-u16_at-kind
returns-then-u16_at-kind c = begins_other _ _ c.if-bytes-lt6.false c.u16_at.ensures.0 c.if-u16_at-kind.true

pub returns-then-size-lt2 : goal.returns-then-size-lt2
returns-then-size-lt2 c = begins-small _ _ c.if-bytes-lt6.false c.u16_at.ensures.0 c.if-u16_at-kind.false c.u32_at-size.ensures.0 c.if-size-lt2.true

pub returns : goal.returns
returns c = begins-last _ _ c.if-bytes-lt6.false c.u16_at.ensures.0 c.if-u16_at-kind.false c.u32_at-size.ensures.0 c.if-size-lt2.false
