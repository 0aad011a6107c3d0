-- `ocean_c::asked::found` meets its contract, by whether there is one.
-- Assumes nothing.
use Rattle.ocean_c.specs.Coded.{found_coded}
use Rattle.ocean_c.proofs.asked.found.Goals as goal

pub returns-in-Some : goal.returns-in-Some
unfolding found_coded
returns-in-Some c = rw c.in-Some.is c.accepted.ensures

pub returns-in-None : goal.returns-in-None
unfolding found_coded
returns-in-None c = rw c.in-None.is c.accepted-in-None.ensures
