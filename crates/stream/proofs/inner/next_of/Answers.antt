-- `stream::inner::next_of` meets its contract: by how many bytes there were.
-- Assumes nothing.
use mathlib.Core.Path.{◌∙◌}
use Rattle.records.proofs.NumberLaws.{u32-bytes}
use Rattle.stream.proofs.NextLaws.{next_end, next_short, next_number}
use Rattle.stream.proofs.inner.next_of.Goals as goal

pub returns-then-got-eq0 : goal.returns-then-got-eq0
returns-then-got-eq0 c = next_end c.args.got c.args.bytes.now c.if-got-eq0.true

pub returns-then-got-lt4 : goal.returns-then-got-lt4
returns-then-got-lt4 c = next_short c.args.got c.args.bytes.now c.if-got-eq0.false c.if-got-lt4.true

pub returns : goal.returns
returns c =
    let a = c.args in
    next_number a.got a.bytes.now c.if-got-eq0.false c.if-got-lt4.false _ (c.from_le_bytes.ensures ∙ u32-bytes a.bytes.now 0)
