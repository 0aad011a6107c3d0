-- `records::inner::u32_at` meets its contract.
-- Assumes nothing.
use mathlib.Core.Path.{◌∙◌}
use native.Mathlib.Omega.{arith}
use Rattle.records.proofs.NumberLaws.{u32-bytes}
use Rattle.records.proofs.inner.u32_at.Goals as goal

pub returns : goal.returns
returns c = (c.from_le_bytes.ensures ∙ u32-bytes c.args.bytes.now c.args.at, omega arith)
