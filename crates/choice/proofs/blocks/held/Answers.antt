-- `choice::blocks::held` meets its contract: a mark below 2 names no cell, and another one the cell that is held against the best.
-- Assumes nothing.
use mathlib.Core.Path.{ap}
use Prim.Native.Nat.{ℕ, ◌+◌, ◌-◌}
use native.Mathlib.Omega.{arith}
use Rattle.choice.proofs.BestLaws.{wins_later, wins_earlier}
use Rattle.choice.proofs.BlockLaws.{held_none, held-cell}
use Rattle.choice.proofs.blocks.held.Goals as goal

pub returns-then-mark-lt2 : goal.returns-then-mark-lt2
returns-then-mark-lt2 c = (c.requires.3, λ domains weighted. held_none _ _ _ _ c.if-mark-lt2.true)

pub overflow_add-cell : goal.overflow_add-cell
overflow_add-cell c =
    -- start
    omega (arith, c.requires.4 c.if-mark-lt2.false, c.wide.ensures)

pub of_cell-note-requires : goal.of_cell-note-requires
of_cell-note-requires c =
    -- start
    let inside = c.requires.4 c.if-mark-lt2.false in
    (omega (arith, inside, c.wide.ensures, c.requires.0), omega (arith, inside, c.wide.ensures, c.requires.1), omega (arith, inside, c.wide.ensures, c.requires.2))

pub returns-then-wins : goal.returns-then-wins
returns-then-wins c =
    -- start
    let inside = c.requires.4 c.if-mark-lt2.false in (
      omega (arith, inside, c.wide.ensures),
      λ domains weighted.
          held-cell _ _ _ _ c.if-mark-lt2.false (ap (λ (k : ℕ). c.args.start + (k - 2)) c.wide.ensures)
          (wins_later _ _ _ _ domains _ _ weighted (omega (arith, inside, c.wide.ensures)) c.of_cell-note.ensures c.wins.ensures c.if-wins.true),
    )

pub returns : goal.returns
returns c =
    -- start
    let inside = c.requires.4 c.if-mark-lt2.false in (
      c.requires.3,
      λ domains weighted.
          held-cell _ _ _ _ c.if-mark-lt2.false (ap (λ (k : ℕ). c.args.start + (k - 2)) c.wide.ensures)
          (wins_earlier _ _ _ _ domains _ _ weighted (omega (arith, inside, c.wide.ensures)) c.of_cell-note.ensures c.wins.ensures c.if-wins.false),
    )
