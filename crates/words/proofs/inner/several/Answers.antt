-- `words::inner::several` meets its contract: what is left without the least pattern has one where there are two or more.
-- Assumes nothing.
use mathlib.Core.Bool.{not}
use mathlib.Core.Path.{◌∙◌, ap}
use Prim.Native.Nat.{ℕ}
use native.Mathlib.Omega.{arith}
use lib.Dec.{eqb}
use Rattle.words.proofs.CountLaws.{many_none}
use Rattle.words.proofs.LeastLaws.{left_several}
use Rattle.words.proofs.inner.several.Goals as goal

pub returns-then-word-ne0 : goal.returns-then-word-ne0
returns-then-word-ne0 c =
    ap (λ (x : ℕ). not (eqb x 0)) c.without_least.ensures ∙ left_several 64 c.args.word (omega arith) c.ranges.word.fits

pub returns-else-word-ne0 : goal.returns-else-word-ne0
returns-else-word-ne0 c = rw (c.if-word-ne0.false, many_none 64)
