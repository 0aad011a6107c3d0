-- `choice::blocks::look` meets its contract: the scan ends where the block does, and a code tells its best cell, which is less than 32 past its start.
-- Assumes nothing.
use native.Mathlib.Omega.{arith}
use Rattle.choice.proofs.BlockLaws.{look_none, look-near, look-cell}
use Rattle.choice.proofs.blocks.look.Goals as goal

pub returns-then-best-cells : goal.returns-then-best-cells
returns-then-best-cells c =
    -- start
    look_none _ _ _ c.requires c.block_end-end.ensures c.scan-best.ensures c.if-best-cells.true

pub overflow_sub-best : goal.overflow_sub-best
overflow_sub-best c =
    -- start
    omega (arith, look-near _ _ _ c.requires c.block_end-end.ensures c.scan-best.ensures c.if-best-cells.false)

pub overflow_add-best : goal.overflow_add-best
overflow_add-best c =
    -- start
    omega (arith, look-near _ _ _ c.requires c.block_end-end.ensures c.scan-best.ensures c.if-best-cells.false)

pub narrow-requires : goal.narrow-requires
narrow-requires c =
    -- start
    omega (arith, look-near _ _ _ c.requires c.block_end-end.ensures c.scan-best.ensures c.if-best-cells.false)

pub returns : goal.returns
returns c =
    -- start
    look-cell _ _ _ c.requires c.block_end-end.ensures c.scan-best.ensures c.if-best-cells.false c.narrow.ensures
