use Rattle.std.proofs.Common.{◌-◌}
use Rattle.rehearsal.proofs.main.Given as goal

abbrev pub decreases-loop-from : goal.decreases-loop-from
decreases-loop-from l = l.count - l.from
