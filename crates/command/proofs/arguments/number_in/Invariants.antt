-- `command::arguments::number_in` meets its contract. The invariant: what is left, read after the number so far, is the whole.
-- Assumes nothing.
use mathlib.Core.Path.{◌≡◌}
use lib.ListN.{drop}
use Rattle.command.specs.Arguments.{read_from}
use Rattle.command.proofs.arguments.number_in.Given as goal

abbrev pub invariant-loop-byte : goal.invariant-loop-byte
invariant-loop-byte l = read_from (drop l.byte-index l.text) l.value ≡ read_from l.text 0
