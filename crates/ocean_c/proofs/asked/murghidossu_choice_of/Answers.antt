-- `ocean_c::asked::murghidossu_choice_of` meets its contract: each answer has its number.
-- Assumes nothing.
use mathlib.Core.Path.{sym, ap, ◌∙◌}
use Rattle.choice.specs.Asked.{choice_told}
use Rattle.ocean_c.specs.Coded.{found_coded}
use Rattle.ocean_c.proofs.CodeLaws.{unfound_coded}
use Rattle.ocean_c.proofs.BoundLaws.{choice-few}
use Rattle.ocean_c.proofs.asked.murghidossu_choice_of.Goals as goal

pub found-requires : goal.found-requires
unfolding choice_told
found-requires c = choice-few _ _ _ _ _ (sym (ap choice_told c.in-Ok.is) ∙ c.choice_of.ensures)

pub returns-in-Ok : goal.returns-in-Ok
unfolding choice_told
returns-in-Ok c = c.found.ensures ∙ ap found_coded (sym (ap choice_told c.in-Ok.is) ∙ c.choice_of.ensures)

pub returns-in-Err : goal.returns-in-Err
unfolding choice_told
returns-in-Err c = unfound_coded (sym (ap choice_told c.in-Err.is) ∙ c.choice_of.ensures) c.refused.ensures
