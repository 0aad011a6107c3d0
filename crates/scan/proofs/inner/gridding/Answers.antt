-- `scan::inner::gridding` meets its contract: by whether the payload is as long.
-- Assumes nothing.
use mathlib.Core.Path.{sym, ◌∙◌}
use borrow.Author.Tests.{eq-eqb, ne_eqb}
use Rattle.scan.specs.Scanning.{gridding}
use Rattle.scan.proofs.inner.gridding.Goals as goal

pub returns-then-left-ne6 : goal.returns-then-left-ne6
unfolding gridding
returns-then-left-ne6 c = rw (ne_eqb c.args.left 6 c.if-left-ne6.true)

pub returns : goal.returns
unfolding gridding
returns c = c.passing.ensures ∙ sym (rw (eq-eqb c.args.left 6 c.if-left-ne6.false))
