-- `chart::table::put_cells` meets its contract. The invariant: the cells up to this one were put.
-- Assumes nothing.
use lib.ListN.{get_or}
use Rattle.chart.specs.Chart.{cell_text}
use Rattle.text.specs.Pages.{Puts, texts}
use Rattle.chart.proofs.inner.table.put_cells.Given as goal

abbrev pub invariant-loop-word : goal.invariant-loop-word
invariant-loop-word l = Puts (texts (λ x. cell_text l.wide (get_or l.row x 0)) 0 l.word-index) l.fn.page l.page
