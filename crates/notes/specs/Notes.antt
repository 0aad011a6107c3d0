-- What is noted of a cell: its entropy, with its noise word and how many of its patterns have weight. Follows docs/RULES.md, "Run".
-- Assumes nothing.
use Rattle.std.specs.Prelude.{cond, List, ℕ, ◌+◌, Float, get_or}
use Rattle.std.specs.Float.{nan}
use Rattle.std.specs.Float.Ieee.{lt}
use Rattle.notes.specs.declared.inner.Note.{Note}

-- a note from its parts
abbrev pub note : Float → ℕ → ℕ → Note
note entropy noise count = record { entropy = entropy; noise = noise; count = count }

-- the note of cell c as it is kept: entropies after the cells' running values, and counts, 0 where there is no note, before any other marks
abbrev pub note_of : List ℕ → ℕ → ℕ → List Float → List ℕ → Note
note_of noise cells c floats marks = note (get_or floats (cells + c) nan) (get_or noise c 0) (get_or marks c 0)

-- a later entropy, with its count, takes the place of the noted one where it is strictly less
unfoldable pub lowered : Note → Float → ℕ → Note
lowered n entropy count = cond (lt entropy n.entropy) (note entropy n.noise count) n
