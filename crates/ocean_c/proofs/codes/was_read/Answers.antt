-- `ocean_c::codes::was_read` meets its contract: a sheet has the number 0, a refusal its own.
-- Assumes nothing.
use Rattle.ocean_c.proofs.CodeLaws.{read-coded, unread-coded}
use Rattle.ocean_c.proofs.codes.was_read.Goals as goal

pub returns-in-Ok : goal.returns-in-Ok
returns-in-Ok c = read-coded c.in-Ok.is

pub returns-in-Err : goal.returns-in-Err
returns-in-Err c = unread-coded c.in-Err.is c.refused.ensures
