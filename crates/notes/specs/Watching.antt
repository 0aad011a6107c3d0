-- What a removal changes in the lent slices: what is kept beside the domains, and the mark of the cell's block, which tells that the block must be looked at again.
-- Follows docs/RULES.md, "Propagation" and "Run". Assumes nothing.
use Rattle.std.specs.Prelude.{List, ℕ}
use Rattle.notes.specs.Blocks.{touched}
use Rattle.consistency.specs.Worklist.{Removal}
use Rattle.notes.specs.Beside.{Beside, beside, kept}

-- the block of cell c is touched
unfoldable pub touching : ℕ → ℕ → Beside → Beside
unfolding touched
touching cells c x = beside x.floats (touched cells c x.marks)

-- what a removal in propagation changes, with the mark of its cell's block
unfoldable pub watching : List ℕ → List ℕ → ℕ → Removal → List ℕ → Beside → Beside
unfolding kept touching
watching weights noise cells u D x = touching cells u.cell (kept weights noise cells u D x)
