-- The number of each end of a run. Follows docs/RULES.md, "Run".
-- Assumes nothing.
use Rattle.std.specs.Prelude.{ℕ}
use Rattle.collapse.specs.declared.Ending.{Ending}
use Rattle.collapse.specs.declared.Ending.TheVariants.{Decided, Undecided, Paused, Contradiction}

abbrev pub end_number : Ending → ℕ
end_number Decided = 0
end_number Undecided = 1
end_number Paused = 2
end_number Contradiction = 3
