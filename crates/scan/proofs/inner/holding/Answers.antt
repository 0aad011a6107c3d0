-- `scan::inner::holding` meets its contract: by the kind.
-- Assumes nothing.
use mathlib.Core.Path.{sym, ◌∙◌}
use Rattle.std.proofs.Common.{rules}
use Rattle.scan.specs.Scanning.{holding}
use Rattle.scan.proofs.inner.holding.Goals as goal

pub returns-in-1 : goal.returns-in-1
unfolding holding
returns-in-1 c = rw c.in-1.is

pub returns-in-2 : goal.returns-in-2
unfolding holding
returns-in-2 c = c.listing.ensures ∙ sym (rw c.in-2.is)

pub returns-in-3 : goal.returns-in-3
unfolding holding
returns-in-3 c = c.gridding.ensures ∙ sym (rw c.in-3.is)

pub returns-in_default : goal.returns-in_default
unfolding holding
returns-in_default c = search rules
