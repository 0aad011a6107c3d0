-- `chart::table::put_legend` meets its contract: its parts in a row.
-- Assumes nothing.
use Rattle.text.proofs.PageLaws.{◌⨾◌}
use Rattle.chart.specs.Chart.{legend_text}
use Rattle.chart.proofs.inner.table.put_legend.Goals as goal

pub returns : goal.returns
unfolding legend_text
returns c = c.put_patterns.ensures ⨾ (rw c.count_holding.ensures at c.put_count.ensures) ⨾ (rw c.count_alike.ensures at c.put_count-2.ensures)
