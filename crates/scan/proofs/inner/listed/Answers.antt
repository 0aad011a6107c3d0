-- `scan::inner::listed` meets its contract: by whether the list ends in its record.
-- Assumes nothing.
use mathlib.Core.Path.{sym, ◌∙◌}
use borrow.Author.Tests.{lt-ltb, le-ltb}
use Rattle.scan.specs.Scanning.{listed}
use Rattle.scan.proofs.inner.listed.Goals as goal

pub returns-then-left-x : goal.returns-then-left-x
unfolding listed
returns-then-left-x c = rw (le-ltb c.args.x c.args.left c.if-left-x.true)

pub returns : goal.returns
unfolding listed
returns c = c.within.ensures ∙ sym (rw (lt-ltb c.args.x c.args.left c.if-left-x.false))
