-- `ocean_c::sheets::murghidossu_read` meets its contract: the call comes to what `read` comes to, with its answer as a number.
-- Assumes nothing.
use Rattle.ocean_c.proofs.ReturnedLaws.{read-returned}
use Rattle.ocean_c.proofs.sheets.murghidossu_read.Goals as goal

pub returns : goal.returns
returns c = read-returned c.read.ensures c.was_read.ensures
