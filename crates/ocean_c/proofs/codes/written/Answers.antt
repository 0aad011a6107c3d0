-- `ocean_c::codes::written` meets its contract: the bytes are the value, a refusal has its own number.
-- Assumes nothing.
use native.Mathlib.Omega.{arith}
use Rattle.ocean_c.proofs.CodeLaws.{bytes-few, written-coded, unwritten-coded}
use Rattle.ocean_c.proofs.codes.written.Goals as goal

pub accepted-requires : goal.accepted-requires
accepted-requires c = (omega arith, bytes-few c.in-Ok.is c.requires)

pub returns-in-Ok : goal.returns-in-Ok
returns-in-Ok c = written-coded c.in-Ok.is c.accepted.ensures

pub returns-in-Err : goal.returns-in-Err
returns-in-Err c = unwritten-coded c.in-Err.is c.refused.ensures
