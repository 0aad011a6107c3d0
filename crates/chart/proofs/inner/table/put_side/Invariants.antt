-- `chart::table::put_side` meets its contract. The invariant: as many sides as there were turns were put.
-- Assumes nothing.
use lib.ListN.{replicate}
use Rattle.text.specs.Pages.{Puts, texts}
use Rattle.chart.proofs.inner.table.put_side.Given as goal

abbrev pub invariant-loop : goal.invariant-loop
invariant-loop l = Puts (texts (λ x. replicate l.wide l.sign) 0 l.counter) l.fn.page l.page
