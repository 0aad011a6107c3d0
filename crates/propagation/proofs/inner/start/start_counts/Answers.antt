-- `propagation::inner::start::start::start_counts` meets its contract: the first cell's counts, at every cell.
-- Assumes nothing.
use native.Mathlib.Omega.{arith}
use Rattle.propagation.proofs.CountLaws.{counts_start}
use Rattle.propagation.proofs.inner.start.start_counts.Goals as goal

pub returns : goal.returns
returns c = λ cells long.
    counts_start _ cells c.first_counts.new.counts _ c.requires.0 (omega (arith, long, c.repeat_counts.auto, c.first_counts.auto))
    c.first_counts.ensures (λ k h. c.repeat_counts.ensures k (omega (arith, h, c.repeat_counts.auto)))
