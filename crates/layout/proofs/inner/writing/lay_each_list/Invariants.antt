-- `layout::inner::writing::lay_each_list` meets its contract.
-- Assumes nothing.
use mathlib.Core.Path.{◌≡◌}
use Rattle.records.specs.Laying.{pen, laid}
use Rattle.layout.specs.Sheet.{list_bytes}
use Rattle.layout.specs.Tables.{lists_of}
use Rattle.layout.proofs.WritingLaws.{bytes_from}
use Rattle.layout.proofs.inner.writing.lay_each_list.Given as goal

abbrev pub invariant-loop-k : goal.invariant-loop-k
invariant-loop-k l =
    laid (bytes_from l.table l.k) (pen l.out l.place) ≡ laid (list_bytes (lists_of l.table)) (pen l.initial.out l.at)
