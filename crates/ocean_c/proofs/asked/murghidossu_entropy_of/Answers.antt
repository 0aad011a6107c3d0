-- `ocean_c::asked::murghidossu_entropy_of` meets its contract: an entropy is no NaN, so it has bits; each answer has its number.
-- Assumes nothing.
use mathlib.Core.Path.{sym, ap, ◌∙◌}
use Rattle.std.specs.Prelude.{Ok}
use Rattle.logarithms.specs.Asked.{entropy_told}
use Rattle.ocean_c.proofs.CodeLaws.{entropy-coded, no-entropy-coded, unasked-coded}
use Rattle.ocean_c.proofs.BoundLaws.{entropy-number}
use Rattle.ocean_c.proofs.asked.murghidossu_entropy_of.Goals as goal

pub float_to_bits-entropy : goal.float_to_bits-entropy
unfolding entropy_told
float_to_bits-entropy c = entropy-number _ _ _ _ (sym (ap entropy_told (c.in-Ok-Some.is ∙ ap Ok c.in-Ok-Some.field-0-is)) ∙ c.entropy_of.ensures)

pub returns-in-Ok-Some : goal.returns-in-Ok-Some
unfolding entropy_told
returns-in-Ok-Some c = entropy-coded (sym (ap entropy_told (c.in-Ok-Some.is ∙ ap Ok c.in-Ok-Some.field-0-is)) ∙ c.entropy_of.ensures) c.accepted.ensures

pub returns-in-Ok-None : goal.returns-in-Ok-None
unfolding entropy_told
returns-in-Ok-None c = no-entropy-coded (sym (ap entropy_told (c.in-Ok-None.is ∙ ap Ok c.in-Ok-None.field-0-is)) ∙ c.entropy_of.ensures) c.accepted-in-Ok-None.ensures

pub returns-in-Err : goal.returns-in-Err
unfolding entropy_told
returns-in-Err c = unasked-coded (sym (ap entropy_told c.in-Err.is) ∙ c.entropy_of.ensures) c.refused.ensures
