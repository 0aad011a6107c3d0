-- `choice::inner::choose` meets its contract: at each turn what is left takes what the whole takes, and the word that is left falls.
-- Assumes nothing.
use mathlib.Core.Path.{◌≡◌, sym, ap, ◌∙◌}
use Prim.Native.Nat.{◌<◌}
use native.Mathlib.Omega.{arith}
use lib.ListN.{length}
use Rattle.words.specs.Words.{bit, without}
use Rattle.words.proofs.ChangeLaws.{without-less}
use Rattle.choice.proofs.ChoiceLaws.{walked_start, walked_at, walked_on, walked_end}
use Rattle.choice.proofs.inner.choose.Goals as goal
use Rattle.choice.proofs.inner.choose.Goals.{At-loop-p, After-without_least-left}

-- at the loop's head p is a pattern of the word that is left
at : (c : At-loop-p) → (c.loop-p.p < length c.args.weights.now) × (bit c.loop-p.left c.loop-p.p ≡ 1)
at c = walked_at c.requires.0.few c.loop-p.invariant

pub loop-p-init : goal.loop-p-init
loop-p-init c = walked_start c.requires.0 c.requires.1 c.next_pattern-p.ensures

pub offset_bounds-weights-p : goal.offset_bounds-weights-p
offset_bounds-weights-p c = omega (arith, at c)

pub bounds-weights-p : goal.bounds-weights-p
bounds-weights-p c = (at (goal.at.bounds-weights-p c).At-loop-p).0

pub offset_bounds-weights-p-in-loop-p : goal.offset_bounds-weights-p-in-loop-p
offset_bounds-weights-p-in-loop-p c = omega (arith, at (goal.at.offset_bounds-weights-p-in-loop-p c).At-loop-p)

pub bounds-weights-p-in-loop-p : goal.bounds-weights-p-in-loop-p
bounds-weights-p-in-loop-p c = (at (goal.at.bounds-weights-p-in-loop-p c).At-loop-p).0

pub without_least-left-requires : goal.without_least-left-requires
without_least-left-requires c = omega (arith, without-less _ _ (at (goal.at.without_least-left-requires c).At-loop-p).1)

-- the pattern taken away is p
taken-away : (c : After-without_least-left) → c.without_least-left.result ≡ without c.loop-p.left c.loop-p.p
taken-away c =
    c.without_least-left.ensures ∙ ap (without c.loop-p.left) (sym c.loop-p.invariant.next)

pub loop-p-smaller : goal.loop-p-smaller
loop-p-smaller c = rw (taken-away (goal.at.loop-p-smaller c).After-without_least-left) (without-less _ _ (at (goal.at.loop-p-smaller c).At-loop-p).1)

pub loop-p-preserved : goal.loop-p-preserved
loop-p-preserved c =
    walked_on c.requires.0.few c.loop-p.invariant c.loop-p-test.true (taken-away (goal.at.loop-p-preserved c).After-without_least-left) c.next_pattern-p-in-loop-p.ensures

pub returns : goal.returns
returns c = walked_end c.requires.0.few c.loop-p.invariant c.loop-p-test.false
