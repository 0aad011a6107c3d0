-- `ocean_c::laying::murghidossu_run` meets its contract: the call comes to what `run_numbers` comes to, with its answer as a number.
-- Assumes nothing.
use Rattle.ocean_c.proofs.BoundLaws.{told-few}
use Rattle.ocean_c.proofs.ReturnedLaws.{run-returned}
use Rattle.ocean_c.proofs.laying.murghidossu_run.Goals as goal

pub code_of-requires : goal.code_of-requires
code_of-requires c = told-few _ _ _ _ _ c.run_numbers.ensures

pub returns : goal.returns
returns c = run-returned c.run_numbers.ensures c.code_of.ensures
