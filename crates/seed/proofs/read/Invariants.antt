-- `seed::read` meets its contract. The invariant: the entries passed are the words of the file.
-- Assumes nothing.
use Rattle.std.proofs.Common.{◌≡◌, take}
use Rattle.seed.specs.Strips.{words_in}
use Rattle.seed.proofs.read.Given as goal

abbrev pub invariant-loop-i : goal.invariant-loop-i
invariant-loop-i l = take l.i l.out ≡ words_in l.bytes l.i
