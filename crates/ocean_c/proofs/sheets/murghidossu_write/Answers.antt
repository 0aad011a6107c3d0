-- `ocean_c::sheets::murghidossu_write` meets its contract: the call comes to what `write` comes to, with its answer as a number.
-- Assumes nothing.
use Rattle.ocean_c.proofs.BoundLaws.{written-few}
use Rattle.ocean_c.proofs.ReturnedLaws.{write-returned}
use Rattle.ocean_c.proofs.sheets.murghidossu_write.Goals as goal

pub written-requires : goal.written-requires
written-requires c = written-few _ _ _ _ _ c.write.ensures

pub returns : goal.returns
returns c = write-returned c.write.ensures c.written.ensures
