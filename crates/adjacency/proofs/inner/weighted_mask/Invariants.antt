-- `adjacency::inner::weighted_mask` meets its contract. The invariant: the word is gathered from the patterns passed.
-- Assumes nothing.
use mathlib.Core.Path.{◌≡◌}
use Rattle.words.specs.Words.{gathered}
use Rattle.adjacency.specs.Weights.{weighted}
use Rattle.adjacency.proofs.inner.weighted_mask.Given as goal

abbrev pub invariant-loop-p : goal.invariant-loop-p
invariant-loop-p l = l.word ≡ gathered l.p (weighted l.weights)
