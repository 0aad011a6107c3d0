-- `words::inner::has_pattern` meets its contract: the shift brings bit p to the end.
-- Assumes nothing.
use mathlib.Core.Path.{refl}
use Rattle.words.specs.Words.{bit, has}
use Rattle.words.proofs.inner.has_pattern.Goals as goal

pub returns : goal.returns
unfolding has bit
returns c = refl
