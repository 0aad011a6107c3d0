-- What the observer keeps of each block of 32 cells, so that it need not look at all of them again: 0 where it must look again, 1 where no note of the block counts,
-- and else 2 more than the best cell's place in the block. Follows docs/RULES.md, "Run".
-- Assumes nothing.
use Rattle.std.specs.Prelude.{cond, List, [], ◌∷◌, ◌++◌, ◌⊎◌, ◌≡◌, ℕ, zero, suc, ◌+◌, ◌-◌, ◌*◌, ◌<◌, ltb, length, get_or, take, replicate}
use Rattle.notes.specs.Blocks.{blocks}
use Rattle.choice.specs.Observer.{Notes, note_at, Best, At, Empty, best_in}

-- ---- one block

-- the first cell of block y
abbrev pub start_of : ℕ → ℕ
start_of y = y * 32

-- the code of the best cell of the block that starts there
abbrev pub code : ℕ → Best → ℕ
code start Empty = 1
code start (At c n) = c - start + 2

-- what a code stands for, 0 apart: a cell of the block that starts there, with its note
unfoldable pub decode : Notes → ℕ → ℕ → Best
decode v start k = cond (ltb k 2) Empty (At (start + (k - 2)) (note_at v (start + (k - 2))))

-- what the mark of block y is after a look at its cells
unfoldable pub code_at : Notes → ℕ → ℕ
unfolding best_in
code_at v y = code (start_of y) (best_in v (start_of y) 32)

-- ---- all blocks

-- each mark of a block is 0, or what a look at its cells would give
pub record Fresh (v : Notes) (cache : List ℕ) : Type 0 where
  pub at : (y : ℕ) → y < length cache → (get_or cache y 0 ≡ 0) ⊎ (get_or cache y 0 ≡ code_at v y)

-- the marks of k blocks from i on, after a look at each
unfoldable pub codes : Notes → ℕ → ℕ → List ℕ
unfolding code_at
codes v i zero = []
codes v i (suc k) = code_at v i ∷ codes v (suc i) k

-- the marks after an observation: those of the cells as they were, and those of all blocks after a look
unfoldable pub recoded : ℕ → Notes → List ℕ → List ℕ
unfolding codes
recoded cells v marks = take (2 * cells) marks ++ codes v 0 (blocks cells)

-- the marks with those of the blocks 0
unfoldable pub forgotten : ℕ → List ℕ → List ℕ
forgotten cells marks = take (2 * cells) marks ++ replicate (length marks - 2 * cells) 0
