-- `ocean_c::laying::murghidossu_run_result` meets its contract: the call comes to what `run_result` comes to, with its answer as a number.
-- Assumes nothing.
use Rattle.ocean_c.proofs.BoundLaws.{result-few}
use Rattle.ocean_c.proofs.ReturnedLaws.{result-returned}
use Rattle.ocean_c.proofs.laying.murghidossu_run_result.Goals as goal

pub code_of-requires : goal.code_of-requires
code_of-requires c = result-few _ _ _ _ _ c.run_result.ensures

pub returns : goal.returns
returns c = result-returned c.run_result.ensures c.code_of.ensures
