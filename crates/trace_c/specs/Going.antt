-- When the steps of a run may go on. Follows docs/RULES.md, "Run". Assumes nothing.
use Rattle.std.specs.Prelude.{Bool, true, ◌≡◌}
use Rattle.course.specs.Run.{Given}
use Rattle.course.specs.Called.{Memory}
use Rattle.run.specs.Stages.{Standing}

-- where a step goes on, the slices are as the next must find them
abbrev pub Going : Given → Bool → Memory → Type 0
Going i goes m = goes ≡ true → Standing i m
