-- `ocean_c::codes::settled` meets its contract: each answer has its number.
-- Assumes nothing.
use Rattle.ocean_c.proofs.CodeLaws.{consistent-coded, contradiction_coded, unsettled_coded}
use Rattle.ocean_c.proofs.codes.settled.Goals as goal

pub returns-in-Ok-Consistent : goal.returns-in-Ok-Consistent
returns-in-Ok-Consistent c = consistent-coded c.in-Ok-Consistent.is (rw c.in-Ok-Consistent.is at c.in-Ok-Consistent.field-0-is) c.accepted.ensures

pub returns-in-Ok-Contradiction : goal.returns-in-Ok-Contradiction
returns-in-Ok-Contradiction c = contradiction_coded c.in-Ok-Contradiction.is (rw c.in-Ok-Contradiction.is at c.in-Ok-Contradiction.field-0-is) c.accepted-in-Ok-Contradiction.ensures

pub returns-in-Err : goal.returns-in-Err
returns-in-Err c = unsettled_coded c.in-Err.is c.refused.ensures
