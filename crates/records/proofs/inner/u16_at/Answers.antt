-- `records::inner::u16_at` meets its contract.
-- Assumes nothing.
use native.Mathlib.Omega.{arith}
use Rattle.records.specs.Numbers.{u16At}
use Rattle.records.proofs.inner.u16_at.Goals as goal

pub returns : goal.returns
unfolding u16At
returns c = (omega arith, omega arith)
