-- `scan::inner::forbidding` meets its contract: by how long the payload is.
-- Assumes nothing.
use Prim.Native.Nat.{◌%◌}
use borrow.Author.Tests.{le-leb, lt-leb, eq-eqb, ne_eqb}
use Rattle.scan.specs.Scanning.{forbidding}
use Rattle.scan.proofs.inner.forbidding.Goals as goal

pub returns-then-left-ne0 : goal.returns-then-left-ne0
unfolding forbidding
returns-then-left-ne0 c = rw (ne_eqb (c.args.left % 6) 0 c.if-left-ne0.true)

pub returns-then-left-gt24576 : goal.returns-then-left-gt24576
unfolding forbidding
returns-then-left-gt24576 c = rw (eq-eqb (c.args.left % 6) 0 c.if-left-ne0.false, lt-leb c.args.left 24576 c.if-left-gt24576.true)

pub returns : goal.returns
unfolding forbidding
returns c = rw (eq-eqb (c.args.left % 6) 0 c.if-left-ne0.false, le-leb c.args.left 24576 c.if-left-gt24576.false)
