-- `ocean_c::laying::murghidossu_propagate` meets its contract: the call comes to what `propagate` comes to, with its answer as a number.
-- Assumes nothing.
use Rattle.ocean_c.proofs.ReturnedLaws.{settled-returned}
use Rattle.ocean_c.proofs.laying.murghidossu_propagate.Goals as goal

pub returns : goal.returns
returns c = settled-returned c.propagate.ensures c.settled.ensures
