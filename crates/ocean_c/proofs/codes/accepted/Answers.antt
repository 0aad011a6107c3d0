-- `ocean_c::codes::accepted` meets its contract: the sum is the number by definition.
-- Assumes nothing.
use Rattle.ocean_c.proofs.CodeLaws.{cased-is}
use Rattle.ocean_c.proofs.codes.accepted.Goals as goal

pub returns : goal.returns
returns c = cased-is c.args.case c.args.value
