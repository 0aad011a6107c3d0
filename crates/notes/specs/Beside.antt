-- What is kept beside the domains at each removal: a running value and a note for each cell. Follows docs/RULES.md, "Propagation" and "Entropy".
-- Assumes nothing.
use Rattle.std.specs.Prelude.{Bool, ◌&&◌, List, ◌++◌, ℕ, zero, suc, ◌+◌, ◌-◌, ◌*◌, Float, length, get_or, set, take, replicate}
use Rattle.std.proofs.Math.Bool.{cond}
use Rattle.std.specs.Int.Bits.{bit_and}
use Rattle.std.proofs.Math.Dec.{leb}
use Rattle.std.specs.Float.{nan}
use Rattle.words.specs.Words.{how_many}
use Rattle.adjacency.specs.Weights.{weight_of, weight_sum, weighted, mask}
use Rattle.logarithms.specs.Entropy.{minus, entropy}
use Rattle.notes.specs.Notes.{note, note_of, lowered}
use Rattle.notes.specs.declared.inner.Note.{Note}
use Rattle.consistency.specs.Worklist.{Removal}

-- `floats` has the cells' running values and then their noted entropies; `marks` has the notes' weighted counts, 0 where there is none,
-- and then 1 for each cell that was noted in this propagation
pub record Beside : Type 0 where
  pub floats : List Float
  pub marks : List ℕ

abbrev pub beside : List Float → List ℕ → Beside
beside floats marks = record { floats = floats; marks = marks }

-- the same of lent slices for n cells, in which the marks of blocks stand after those of cells: they are no part of it
abbrev pub beside_in : ℕ → List Float → List ℕ → Beside
beside_in n floats marks = beside floats (take (2 * n) marks)

-- how many weighted patterns a word has
abbrev pub weighted_in : List ℕ → ℕ → ℕ
weighted_in weights w = how_many (length weights) (bit_and w (mask weights))

-- w log w is taken off a cell's running value; a weight of 0 takes nothing off, and needs none
unfoldable pub lessened_by : ℕ → ℕ → Beside → Beside
unfolding minus
lessened_by zero c x = x
lessened_by (suc w) c x = beside (set x.floats c (minus (get_or x.floats c nan) (suc w))) x.marks

-- over the weights
module _ (weights : List ℕ) where
  -- a removal takes its pattern's w log w off the cell's running value
  unfoldable pub lessened : Removal → List ℕ → Beside → Beside
  unfolding lessened_by
  lessened u D x = lessened_by (weight_of weights u.pattern) u.cell x

  -- a removal proposes an entropy where its pattern has weight and the cell's word after it, w, has a weighted pattern and two or more in all
  unfoldable pub proposes : ℕ → ℕ → Bool
  unfolding weighted how_many mask
  proposes p w = weighted weights p && (leb 1 (weighted_in weights w) && leb 2 (how_many (length weights) w))

-- a cell's first proposal in a propagation replaces its note; a later one only lowers it
unfoldable pub proposed : ℕ → Note → Float → ℕ → Note
unfolding lowered
proposed zero old entropy count = note entropy old.noise count
proposed (suc fresh) old entropy count = lowered old entropy count

-- a cell's note is written, and that the cell was noted in this propagation
unfoldable pub written : ℕ → ℕ → Note → Beside → Beside
written cells c n x = beside (set x.floats (cells + c) n.entropy) (set (set x.marks c n.count) (cells + c) 1)

-- over the noise words and the number of cells
module _ (noise : List ℕ) (cells : ℕ) where
  -- a cell's note after a proposal of an entropy with its weighted count
  abbrev pub note_after : ℕ → Float → ℕ → Beside → Note
  note_after c entropy count x = proposed (get_or x.marks (cells + c) 0) (note_of noise cells c x.floats x.marks) entropy count

  -- that note is written
  unfoldable pub noted : ℕ → Float → ℕ → Beside → Beside
  unfolding proposed written
  noted c entropy count x = written cells c (note_after c entropy count x) x

-- over the weights, the noise words and the number of cells
module _ (weights noise : List ℕ) (cells : ℕ) where
  -- a removal's proposal, where it makes one: the entropy of the cell's word w after it, from the running value that the cell has now
  unfoldable pub proposing : ℕ → ℕ → ℕ → Beside → Beside
  unfolding proposes noted entropy weight_sum
  proposing c p w x =
      cond (proposes weights p w) (noted noise cells c (entropy (weight_sum weights w) (get_or x.floats c nan)) (weighted_in weights w) x) x

  -- what a removal in propagation changes beside the domains
  unfoldable pub kept : Removal → List ℕ → Beside → Beside
  unfolding lessened proposing
  kept u D x = proposing u.cell u.pattern (get_or D u.cell 0) (lessened weights u D x)

-- a propagation begins: no cell was noted in it yet
unfoldable pub unmarked : ℕ → Beside → Beside
unmarked cells x = beside x.floats (take cells x.marks ++ replicate (length x.marks - cells) 0)
