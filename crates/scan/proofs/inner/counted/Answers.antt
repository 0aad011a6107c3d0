-- `scan::inner::counted` meets its contract: by whether the payload is as long.
-- Assumes nothing.
use mathlib.Core.Path.{sym, ◌∙◌}
use Prim.Native.Nat.{◌+◌, ◌*◌}
use borrow.Author.Tests.{eq-eqb, ne_eqb}
use Rattle.scan.specs.Scanning.{counted}
use Rattle.scan.proofs.inner.counted.Goals as goal

pub returns-then-left-count : goal.returns-then-left-count
unfolding counted
returns-then-left-count c = rw (ne_eqb c.args.left (2 + 2 * c.args.count) c.if-left-count.true)

pub returns : goal.returns
unfolding counted
returns c = c.passing.ensures ∙ sym (rw (eq-eqb c.args.left (2 + 2 * c.args.count) c.if-left-count.false))
