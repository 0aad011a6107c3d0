-- `refusals::inner::number_of` meets its contract.
-- Assumes nothing.
use mathlib.Core.Path.{sym, ap, ◌∙◌}
use Rattle.refusals.specs.Refusals.{number_of}
use Rattle.refusals.proofs.inner.number_of.Goals as goal

pub returns-in-Ok : goal.returns-in-Ok
unfolding number_of
returns-in-Ok c = ap number_of (sym c.in-Ok.is)

pub returns-in-Err : goal.returns-in-Err
unfolding number_of
returns-in-Err c = c.from.ensures ∙ ap number_of (sym c.in-Err.is)
