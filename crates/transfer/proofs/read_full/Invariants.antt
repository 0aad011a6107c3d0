use Rattle.std.proofs.Common.{◌≤◌}
use Rattle.transfer.proofs.read_full.Given as goal

abbrev pub invariant-loop : goal.invariant-loop
invariant-loop g l = l.done ≤ l.size
