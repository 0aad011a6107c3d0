-- `adjacency::inner::weighted_mask` meets its contract. The invariant: the word is gathered from the patterns passed.
-- Assumes nothing.
use mathlib.Core.Path.{◌≡◌, sym, ap, ◌∙◌}
use native.Mathlib.Numerals.{add-one}
use native.Mathlib.Omega.{arith}
use lib.ListN.{length}
use Rattle.words.specs.Words.{joined, gathered}
use Rattle.adjacency.specs.Weights.{weighted, mask}
use Rattle.words.proofs.ChangeLaws.{gathered_none, gathered_more, gathered-skip}
use Rattle.adjacency.proofs.WeightLaws.{true-weighted, false-weighted}
use Rattle.adjacency.proofs.inner.weighted_mask.Goals as goal
use Rattle.adjacency.proofs.inner.weighted_mask.Goals.{then-weight-ne0, else-weight-ne0}

pub loop-p-init : goal.loop-p-init
loop-p-init c = sym (gathered_none (weighted c.args.weights.now))

pub loop-p-preserved : goal.loop-p-preserved
loop-p-preserved c =
    let ws = c.args.weights.now in
    let p = c.loop-p.p in
    rw (add-one p)
    (elim c.if-weight-ne0.branch [
      | then-weight-ne0 w ↦ w.word-is ∙ w.with_pattern-word.ensures ∙ ap (λ x. joined x p) c.loop-p.invariant ∙ sym (gathered_more (weighted ws) p (true-weighted ws p (omega arith)))
      | else-weight-ne0 w ↦ w.word-is ∙ c.loop-p.invariant ∙ sym (gathered-skip (weighted ws) p (false-weighted ws p w.if-weight-ne0.false))
    ])

pub returns : goal.returns
unfolding mask
returns c =
    let ws = c.args.weights.now in
    let end : c.loop-p.p ≡ length ws = omega arith in
    c.loop-p.invariant ∙ ap (λ n. gathered n (weighted ws)) end
