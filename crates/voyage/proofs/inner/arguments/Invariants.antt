use Rattle.std.proofs.Common.{◌-◌, ◌≤◌}
use Rattle.command.specs.Arguments.{Asked}
use Rattle.voyage.proofs.inner.arguments.Given as goal

-- those before the next one were taken, each once, in their order
abbrev pub invariant-loop-i : goal.invariant-loop-i
invariant-loop-i g l = (l.from ≤ l.i) × (l.i - l.from ≤ l.end - l.from) × Asked l.from (l.i - l.from) l.plan
