-- `text::Page::put_repeated` meets its contract. The invariant: as many bytes as there were turns were put.
-- Assumes nothing.
use lib.ListN.{replicate}
use Rattle.text.specs.Pages.{Puts}
use Rattle.text.proofs.Page.put_repeated.Given as goal

abbrev pub invariant-loop : goal.invariant-loop
invariant-loop l = Puts (replicate l.counter l.byte) l.fn.self l.self
