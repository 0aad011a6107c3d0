-- `layout::inner::writing::kind_of` meets its contract.
-- Assumes nothing.
use mathlib.Core.Path.{sym}
use borrow.Author.Tests.{eq-eqb, ne_eqb}
use Rattle.layout.specs.Tables.{kind_of}
use Rattle.layout.proofs.inner.writing.kind_of.Goals as goal

pub returns-then-keep-eq0 : goal.returns-then-keep-eq0
unfolding kind_of
returns-then-keep-eq0 c = sym (rw (eq-eqb _ _ c.if-keep-eq0.true))

pub returns-else-keep-eq0 : goal.returns-else-keep-eq0
unfolding kind_of
returns-else-keep-eq0 c = sym (rw (ne_eqb _ _ c.if-keep-eq0.false))
