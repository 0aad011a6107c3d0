use Rattle.std.proofs.Common.{◌≡◌, ◌-◌, ◌≤◌, length}
use Rattle.replay.specs.Input.{Led}
use Rattle.replay.proofs.input.judge.Given as goal

-- what was read so far leads to the state that is reached
abbrev pub invariant-loop-left : goal.invariant-loop-left
invariant-loop-left g l = (4096 ≡ length l.buffer) × (l.left ≤ l.fn.many) × Led (l.fn.many - l.left) l.fn.state l.reached

abbrev pub decreases-loop-left : goal.decreases-loop-left
decreases-loop-left g l = l.left
