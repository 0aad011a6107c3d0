-- `records::inner::lay_u16` meets its contract.
-- Assumes nothing.
use mathlib.Core.Path.{◌∙◌}
use Rattle.records.proofs.NumberLaws.{le_bytes-u16}
use Rattle.records.proofs.LayingLaws.{laid_as}
use Rattle.records.proofs.inner.lay_u16.Goals as goal

pub returns : goal.returns
returns c = laid_as _ c.lay_bytes.ensures (c.to_le_bytes.ensures ∙ le_bytes-u16 c.args.number c.requires.0)
