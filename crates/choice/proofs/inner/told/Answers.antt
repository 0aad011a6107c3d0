-- `choice::inner::told` meets its contract: each return is what the number stands for.
-- Assumes nothing.
use Rattle.choice.proofs.BestLaws.{told_none, told-cell}
use Rattle.choice.proofs.inner.told.Goals as goal

pub returns-then-best-cells : goal.returns-then-best-cells
returns-then-best-cells c = λ domains weighted. told_none _ _ c.if-best-cells.true

pub returns : goal.returns
returns c = λ domains weighted. told-cell _ _ _ domains _ _ weighted c.if-best-cells.false c.of_cell-note.ensures
