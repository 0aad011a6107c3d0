-- `text::Page::put_text` meets its contract. The invariant: the bytes up to this one were put.
-- Assumes nothing.
use lib.ListN.{take}
use Rattle.text.specs.Pages.{Puts}
use Rattle.text.proofs.Page.put_text.Given as goal

abbrev pub invariant-loop-byte : goal.invariant-loop-byte
invariant-loop-byte l = Puts (take l.byte-index l.text) l.fn.self l.self
