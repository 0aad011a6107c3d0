-- `ocean_c::codes::code_of` meets its contract: each answer tells its end and words, or its refusal, and has that one's number.
-- Assumes nothing.
use native.Mathlib.Omega.{arith}
use Rattle.collapse.proofs.EndingLaws.{end_number-most}
use Rattle.ocean_c.proofs.CodeLaws.{told-ended, refused-coded, end-few, end-coded}
use Rattle.ocean_c.proofs.codes.code_of.Goals as goal

pub accepted-requires : goal.accepted-requires
accepted-requires c = (omega (arith, c.from-case.ensures, end_number-most c.in-Ok.stop.end), end-few (told-ended c.in-Ok.is) c.requires)

pub returns-in-Ok : goal.returns-in-Ok
returns-in-Ok c = end-coded (told-ended c.in-Ok.is) c.from-case.ensures c.accepted.ensures

pub returns-in-Err : goal.returns-in-Err
returns-in-Err c = refused-coded c.in-Err.is c.refused.ensures
