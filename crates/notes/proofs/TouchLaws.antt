-- A removal touches the block of its own cell. Follows docs/RULES.md, "Run". Assumes nothing.
use mathlib.Core.List.{List}
use mathlib.Core.Path.{◌≡◌}
use Prim.Native.Nat.{ℕ, ◌<◌}
use lib.ListN.{length, get_or}
use lib.Seq.{get_or-set_same}
use Rattle.consistency.specs.Worklist.{Removal}
use Rattle.notes.specs.Beside.{Beside, kept}
use Rattle.notes.specs.Blocks.{block_of, block_at, touched}
use Rattle.notes.specs.Watching.{touching, watching}

-- what was found in the block of the removal's cell no longer holds
pub own_block-touched : (ws noise : List ℕ) (cells : ℕ) (u : Removal) (D : List ℕ) (x : Beside)
    → block_at cells (block_of u.cell) < length (kept ws noise cells u D x).marks
    → get_or (watching ws noise cells u D x).marks (block_at cells (block_of u.cell)) 0 ≡ 0
unfolding watching touching touched
own_block-touched ws noise cells u D x h = get_or-set_same (kept ws noise cells u D x).marks (block_at cells (block_of u.cell)) 0 0 h
