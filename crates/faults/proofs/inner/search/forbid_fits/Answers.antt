-- `faults::inner::search::forbid_fits` meets its contract: by what the forbid is judged.
-- Assumes nothing.
use mathlib.Core.Path.{◌∙◌}
use Rattle.faults.proofs.EndLaws.{forbid-judged}
use Rattle.faults.proofs.inner.search.forbid_fits.Goals as goal

pub returns : goal.returns
returns c = c.is_ok.ensures.value ∙ forbid-judged _ _ _ _ c.judge.result c.judge.ensures
