-- `ocean_c::lists::murghidossu_list` meets its contract: an answered list has its place as a number, a refusal its own.
-- Assumes nothing.
use mathlib.Core.Path.{sym, ap, ◌∙◌}
use Rattle.refusals.specs.Refusals.{number_of}
use Rattle.ocean_c.proofs.PartLaws.{list-refused}
use Rattle.ocean_c.proofs.lists.murghidossu_list.Goals as goal

pub part_of-requires : goal.part_of-requires
unfolding number_of
part_of-requires c = sym c.list_refusal.ensures ∙ ap number_of c.in-Ok.is

pub returns-in-Err : goal.returns-in-Err
unfolding number_of
returns-in-Err c = c.refused.ensures ∙ sym (list-refused _ _ _ c.in-Err.refusal (sym c.list_refusal.ensures ∙ ap number_of c.in-Err.is))
