-- `adjacency::inner::Table::bad_offsets` meets its contract: the test is the definition's.
-- Assumes nothing.
use Rattle.adjacency.specs.Checks.{offsets_misfit}
use Rattle.adjacency.proofs.inner.Table.bad_offsets.Goals as goal

pub returns : goal.returns
unfolding offsets_misfit
returns c = rw (← c.self.view_is)
