-- `chart::table::put_numbers` meets its contract. The invariant: the numbers up to this one were put.
-- Assumes nothing.
use Rattle.chart.specs.Chart.{column_text}
use Rattle.text.specs.Pages.{Puts, texts}
use Rattle.chart.proofs.inner.table.put_numbers.Given as goal

abbrev pub invariant-loop-x : goal.invariant-loop-x
invariant-loop-x l = Puts (texts (column_text l.wide) 0 l.x) l.fn.page l.page
