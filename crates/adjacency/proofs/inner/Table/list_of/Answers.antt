-- `adjacency::inner::Table::list_of` meets its contract: the list of p for d is list 4p + d, between two offsets.
-- Assumes nothing.
use Rattle.adjacency.specs.Tables.{list_at, list_of}
use Rattle.adjacency.proofs.inner.Table.list_of.Goals as goal

pub returns : goal.returns
unfolding list_of list_at
returns c = rw (← c.self.view_is)
