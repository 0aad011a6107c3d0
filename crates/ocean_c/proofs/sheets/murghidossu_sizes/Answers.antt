-- `ocean_c::sheets::murghidossu_sizes` meets its contract: a refusal, a slice that is no six numbers, or the measures.
-- Assumes nothing.
use Rattle.ocean_c.proofs.ReturnedLaws.{sized-refused, sized-short, sized-laid}
use Rattle.ocean_c.proofs.sheets.murghidossu_sizes.Goals as goal

pub returns-then-measures-ne6 : goal.returns-then-measures-ne6
returns-then-measures-ne6 c = sized-short c.sizes.ensures _ c.in-Ok.is c.if-measures-ne6.true

pub returns-in-Err : goal.returns-in-Err
returns-in-Err c = sized-refused c.sizes.ensures _ c.in-Err.is c.refused.ensures

pub returns-else-measures-ne6 : goal.returns-else-measures-ne6
returns-else-measures-ne6 c = sized-laid c.sizes.ensures _ c.in-Ok.is c.if-measures-ne6.false c.lay_measures.ensures
