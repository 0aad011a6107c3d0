-- `records::inner::lay_byte` meets its contract.
-- Assumes nothing.
use Rattle.records.proofs.LayingLaws.{laid_one}
use Rattle.records.proofs.inner.lay_byte.Goals as goal

pub returns : goal.returns
returns c = laid_one _ _ _
