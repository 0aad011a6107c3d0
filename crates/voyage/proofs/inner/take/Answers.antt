use Rattle.std.proofs.Common.{take}
use Rattle.command.specs.Arguments.{Taken}
use Rattle.voyage.proofs.inner.take.Goals as goal

-- the text is what the system left
pub returns : goal.returns
unfolding Taken
returns g c = (take c.argument-n.result c.argument-n.new.text, c.step.ensures)
