-- `chart::table::put_patterns` meets its contract. The invariant: the patterns up to this one were put.
-- Assumes nothing.
use Rattle.chart.specs.Chart.{some_text}
use Rattle.text.specs.Pages.{Puts, texts}
use Rattle.chart.proofs.inner.table.put_patterns.Given as goal

abbrev pub invariant-loop-p : goal.invariant-loop-p
invariant-loop-p l = Puts (texts (some_text l.named l.domains) 0 l.p) l.fn.page l.page
