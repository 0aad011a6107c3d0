-- `ocean_c::asked::murghidossu_neighbour` meets its contract: each answer has its number.
-- Assumes nothing.
use mathlib.Core.Path.{sym, ap, ◌∙◌}
use Rattle.grid.specs.Answers.{near_of}
use Rattle.ocean_c.specs.Coded.{found_coded}
use Rattle.ocean_c.proofs.CodeLaws.{unfound_coded}
use Rattle.ocean_c.proofs.BoundLaws.{near-few}
use Rattle.ocean_c.proofs.asked.murghidossu_neighbour.Goals as goal

pub found-requires : goal.found-requires
unfolding near_of
found-requires c = near-few _ _ _ _ (sym (ap near_of c.in-Ok.is) ∙ c.neighbour.ensures)

pub returns-in-Ok : goal.returns-in-Ok
unfolding near_of
returns-in-Ok c = c.found.ensures ∙ ap found_coded (sym (ap near_of c.in-Ok.is) ∙ c.neighbour.ensures)

pub returns-in-Err : goal.returns-in-Err
unfolding near_of
returns-in-Err c = unfound_coded (sym (ap near_of c.in-Err.is) ∙ c.neighbour.ensures) c.refused.ensures
