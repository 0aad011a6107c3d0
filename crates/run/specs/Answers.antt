-- What the answer of a run tells: its end and the words used, or the number of its refusal. Follows docs/RULES.md, "Run" and "Refusals".
use Rattle.std.specs.Prelude.{Result, Ok, Err}
use Rattle.refusals.specs.declared.Refusal.{Refusal}
use Rattle.refusals.specs.Refusals.{Asked, refused, answer, number}
use Rattle.course.specs.Called.{End}
use Rattle.collapse.specs.declared.Stop.{Stop}
use Rattle.collapse.specs.Endings.{end_number}

-- the number of the refusal, or of the end with the words used
unfoldable pub answer_told : Result Stop Refusal → Asked End
unfolding number
answer_told (Ok stop) = answer (record { end = end_number stop.end; used = stop.used })
answer_told (Err r) = refused (number r)
