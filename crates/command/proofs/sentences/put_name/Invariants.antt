-- `command::sentences::put_name` meets its contract. The invariant: the bytes up to this one were put, as they are shown.
-- Assumes nothing.
use lib.ListN.{take}
use Rattle.text.specs.Pages.{Puts}
use Rattle.command.specs.Sentences.{shown}
use Rattle.command.proofs.sentences.put_name.Given as goal

abbrev pub invariant-loop-byte : goal.invariant-loop-byte
invariant-loop-byte l = Puts (shown (take l.byte-index l.name)) l.fn.page l.page
