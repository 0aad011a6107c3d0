-- `logarithms::inner::few_logs` meets its contract: the constant array is the front of the list of the definitions.
-- Assumes nothing.
use mathlib.Core.Path.{refl}
use Rattle.logarithms.specs.Logs.{logs}
use Rattle.logarithms.proofs.inner.few_logs.Goals as goal

pub returns : goal.returns
unfolding logs
returns c = (refl, refl)
