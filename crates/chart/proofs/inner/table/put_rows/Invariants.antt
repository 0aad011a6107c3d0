-- `chart::table::put_rows` meets its contract. The invariant: the rows up to this one were put, and the rest of the domains is what is left of the chunks.
-- Assumes nothing.
use mathlib.Core.Path.{◌≡◌}
use Prim.Native.Nat.{◌*◌}
use lib.ListN.{length, drop}
use Rattle.std.specs.Slice.Iter.{chunks_exact_rest, chunks_exact_size}
use Rattle.text.specs.Pages.{Puts, texts}
use Rattle.chart.specs.Chart.{row_text, row_of}
use Rattle.chart.proofs.inner.table.put_rows.Given as goal

abbrev pub invariant-loop-y : goal.invariant-loop-y
invariant-loop-y l = record {
  number : l.y-iterator.count ≡ length l.yielded;
  size : chunks_exact_size l.y-iterator.iter ≡ l.width;
  rest : chunks_exact_rest l.y-iterator.iter ≡ drop (length l.yielded * l.width) l.domains;
  rows : Puts (texts (λ y. row_text l.wide y l.joined (row_of l.width l.domains y)) 0 (length l.yielded)) l.fn.page l.page;
}
