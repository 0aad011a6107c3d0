-- `logarithms::inner::logs` meets its contract: the constant array is the list of the definitions.
-- Assumes nothing.
use mathlib.Core.Path.{refl}
use Rattle.logarithms.specs.Logs.{logs}
use Rattle.logarithms.proofs.inner.logs.Goals as goal

pub returns : goal.returns
unfolding logs
returns c = refl
