-- `choice::inner::choose` meets its contract: at each turn what is left takes what the whole takes, and the word that is left falls.
-- Assumes nothing.
use Rattle.choice.proofs.ChoiceLaws.{Walked}
use Rattle.choice.proofs.inner.choose.Given as goal

abbrev pub invariant-loop-p : goal.invariant-loop-p
invariant-loop-p l = Walked l.weights l.word l.number l.left l.r l.p

abbrev pub decreases-loop-p : goal.decreases-loop-p
decreases-loop-p l = l.left
