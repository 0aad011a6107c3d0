-- Forbids: records of a cell, a pattern and what is kept, also lent as numbers; when one is refused, and what the refusals leave.
-- Follows docs/RULES.md, "Run" and "Refusals".
use Rattle.std.specs.Prelude.{cond, ◌↔◌, ℕ, ◌/◌, ◌%◌, ◌<◌, eqb, length}
use mathlib.Core.List.{List, ◌∷◌, ◌++◌, Memᴰ, []}
use Rattle.refusals.specs.declared.Refusal.TheVariants.{BadCell, BadPattern}
use Rattle.refusals.specs.Refusals.{Test, ◌gives◌}
use Rattle.adjacency.specs.Tables.{Table}
use Rattle.adjacency.specs.Lookup.{bad_pattern}
use Rattle.grid.specs.Grid.{Grid, bad_cell}
use Rattle.forbids.specs.declared.Forbid.{Forbid}

-- ---- records

-- a forbid from its parts
abbrev pub asking : ℕ → ℕ → ℕ → Forbid
asking cell pattern keep = record { cell = cell; pattern = pattern; keep = keep }

-- each forbid names a pattern of P and a cell of n
abbrev pub Placed : ℕ → ℕ → List Forbid → Type 0
Placed P n [] = Unit {0}
Placed P n (f ∷ fs) = (f.cell < n) × (f.pattern < P) × Placed P n fs

-- the same records, in whatever order and however often
abbrev pub SameForbids : List Forbid → List Forbid → Type 0
SameForbids fs gs = (f : Forbid) → Memᴰ f fs ↔ Memᴰ f gs

-- ---- refusals

-- of one record: the cell before the pattern
unfoldable pub place_tests : ℕ → Grid → ℕ → ℕ → List Test
unfolding bad_cell bad_pattern
place_tests P g c p = (bad_cell g c gives BadCell) ∷ (bad_pattern P p gives BadPattern) ∷ []

-- record by record
unfoldable pub forbid_tests : Table → Grid → List Forbid → List Test
unfolding place_tests
forbid_tests t g [] = []
forbid_tests t g (f ∷ fs) = place_tests t.count g f.cell f.pattern ++ forbid_tests t g fs

-- ---- lent as numbers

-- forbids that are lent as numbers, three for each: the cell, the pattern, and what is kept
unfoldable pub forbids_of : List ℕ → List Forbid
forbids_of [] = []
forbids_of (c ∷ []) = []
forbids_of (c ∷ p ∷ []) = []
forbids_of (c ∷ p ∷ k ∷ ns) = record { cell = c; pattern = p; keep = k } ∷ forbids_of ns

-- how many those are; numbers that are not three for each are refused, as one forbid too many is
unfoldable pub records_in : List ℕ → ℕ
records_in ns = cond (eqb (length ns % 3) 0) (length ns / 3) 4097
