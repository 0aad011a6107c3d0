-- `sheet::sizes` meets its contract.
-- Assumes nothing.
use mathlib.Core.Path.{sym, ◌∙◌}
use Rattle.sheet.proofs.CalledLaws.{sizes-refused, sizes-told}
use Rattle.sheet.proofs.sizes.Goals as goal

pub returns-then-not-well_formed : goal.returns-then-not-well_formed
returns-then-not-well_formed c = sizes-refused _ (sym c.well_formed-2.ensures ∙ c.if-not-well_formed.true)

pub measure-requires : goal.measure-requires
measure-requires c = sym c.well_formed-2.ensures ∙ c.if-not-well_formed.false

pub returns : goal.returns
returns c = sizes-told _ (sym c.well_formed-2.ensures ∙ c.if-not-well_formed.false) c.measure.ensures
