-- Which cell is observed: of those whose note counts, the least entropy, then the least noise word, then the least cell. Follows docs/RULES.md, "Run".
-- Assumes nothing.
use Rattle.std.specs.Prelude.{Bool, not, cond, ◌&&◌, List, ◌≡◌, ℕ, zero, suc, ◌+◌, ◌*◌, leb, eqb, Float, length, get_or, take, drop, Some, None, Option}
use Rattle.std.specs.Int.Bits.{bit_and}
use Rattle.std.specs.Float.{nan}
use Rattle.order.specs.Order.{beats}
use Rattle.words.specs.Words.{how_many}
use Rattle.notes.specs.Blocks.{blocks}
use Rattle.notes.specs.Notes.{note}
use Rattle.notes.specs.declared.inner.Note.{Note}
use Rattle.choice.specs.declared.inner.Sight.{Sight}

-- what the observer reads: an entropy, a noise word, a weighted count and a domain for each cell, and the word of the weighted patterns
pub record Notes : Type 0 where
  pub entropies : List Float
  pub noises : List ℕ
  pub counts : List ℕ
  pub domains : List ℕ
  pub mask : ℕ

abbrev pub notes : List Float → List ℕ → List ℕ → List ℕ → ℕ → Notes
notes entropies noises counts domains mask =
    record { entropies = entropies; noises = noises; counts = counts; domains = domains; mask = mask }

-- as the run keeps them: the entropies after the cells' running values, the counts before any other marks
abbrev pub notes_in : ℕ → List ℕ → List ℕ → List Float → List ℕ → ℕ → Notes
notes_in cells noise domains floats marks mask = notes (drop cells floats) noise (take cells marks) domains mask

-- an entry for each cell; of marks two, and then one for each block
pub record Lengths (cells : ℕ) (noise domains : List ℕ) (floats : List Float) (marks : List ℕ) : Type 0 where
  pub noises : length noise ≡ cells
  pub words : length domains ≡ cells
  pub values : length floats ≡ 2 * cells
  pub marked : length marks ≡ 2 * cells + blocks cells

-- a note counts if its count, which is 0 for none, is how many weighted patterns the cell has now, and the cell has two patterns or more
unfoldable pub valid : ℕ → ℕ → ℕ → Bool
unfolding how_many
valid count w mask = not (eqb count 0) && (eqb (how_many 64 (bit_and w mask)) count && leb 2 (how_many 64 w))

-- of cell c: its note, the note's entropy, and whether the note counts
abbrev pub note_at : Notes → ℕ → Note
note_at v c = note (get_or v.entropies c nan) (get_or v.noises c 0) (get_or v.counts c 0)

abbrev pub entropy_at : Notes → ℕ → Float
entropy_at v c = (note_at v c).entropy

abbrev pub counts_at : Notes → ℕ → Bool
counts_at v c = valid (note_at v c).count (get_or v.domains c 0) v.mask

-- of two notes the better has the lesser entropy, or the same and the lesser noise word
abbrev pub better_than : Note → Note → Bool
better_than n m = beats n.entropy n.noise m.entropy m.noise

-- the best of some cells: one of them with its note, or none
pub data Best : Type 0 where
  At : ℕ → Note → Best
  Empty : Best

-- of two cells the later one wins only where its note is better
unfoldable pub join : Best → Best → Best
unfolding beats
join Empty b = b
join (At c n) Empty = At c n
join (At c n) (At d m) = cond (better_than m n) (At d m) (At c n)

-- a cell, where its note counts
unfoldable pub candidate : Notes → ℕ → Best
unfolding valid
candidate v c = cond (counts_at v c) (At c (note_at v c)) Empty

-- the best of k cells from `start` on, taken one by one
unfoldable pub best_in : Notes → ℕ → ℕ → Best
unfolding join candidate
best_in v start zero = Empty
best_in v start (suc k) = join (best_in v start k) (candidate v (start + k))

-- the best cell as a number, which is how many cells there are where it is none: what it stands for
unfoldable pub best_at : ℕ → Notes → ℕ → Best
best_at cells v b = cond (eqb b cells) Empty (At b (note_at v b))

-- what is observed: a cell with its entropy, or none
abbrev pub Observed : Type 0
Observed = Option Sight

abbrev pub sight : ℕ → Float → Sight
sight c e = record { cell = c; entropy = e }

abbrev pub observed_as : Best → Observed
observed_as Empty = None
observed_as (At c n) = Some (sight c n.entropy)

-- the cell to observe and its entropy, or nothing
unfoldable pub observe : Notes → Observed
unfolding best_in
observe v = observed_as (best_in v 0 (length v.domains))

-- the cell and the entropy that an observation names
unfoldable pub sight_of : Observed → Option Sight
sight_of (Some x) = Some x
sight_of None = None
