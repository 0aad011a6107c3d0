-- `chart::table::put_end` meets its contract: its parts in a row.
-- Assumes nothing.
use Rattle.text.proofs.PageLaws.{◌⨾◌}
use Rattle.chart.specs.Chart.{end_text}
use Rattle.chart.proofs.inner.table.put_end.Goals as goal

pub returns : goal.returns
unfolding end_text
returns c = c.put_line.ensures ⨾ c.put_text.ensures ⨾ c.put_decimal.ensures ⨾ c.put_text-2.ensures
