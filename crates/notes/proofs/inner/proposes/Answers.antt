-- `notes::inner::proposes` meets its contract: what it looks at over 64 bits are the patterns of a word of P.
-- Assumes nothing.
use mathlib.Core.Path.{◌≡◌, sym, ap, ◌∙◌}
use lib.Bits.{bit_and}
use lib.Dec.{leb}
use Rattle.adjacency.specs.Weights.{mask}
use Rattle.notes.proofs.BesideLaws.{many_64, proposes_unweighted, proposes_none, proposes-some}
use Rattle.notes.proofs.inner.proposes.Goals as goal
use Rattle.notes.proofs.inner.proposes.Goals.{After-shared}

-- what the word shares with the weighted patterns
weighted : (c : After-shared) → let a = c.args in c.shared.result ≡ bit_and a.word (mask a.weights.now)
weighted c =
    c.shared.ensures ∙ ap (bit_and c.args.word) c.requires.weighed.1

pub returns-then-weights-pattern-eq0 : goal.returns-then-weights-pattern-eq0
returns-then-weights-pattern-eq0 c = proposes_unweighted _ _ _ c.if-weights-pattern-eq0.true

pub returns-then-shared-eq0 : goal.returns-then-shared-eq0
returns-then-shared-eq0 c = proposes_none _ _ _ c.if-weights-pattern-eq0.false (sym (weighted (goal.at.returns-then-shared-eq0 c).After-shared) ∙ c.if-shared-eq0.true)

pub returns : goal.returns
returns c =
    c.several.ensures
    ∙ ap (leb 2) (many_64 c.requires.weighed.0 c.requires.count_bound.0 c.args.word c.requires.count_bound.2)
    ∙ proposes-some _ _ _ c.if-weights-pattern-eq0.false (λ e. c.if-shared-eq0.false (weighted (goal.at.returns c).After-shared ∙ e))
