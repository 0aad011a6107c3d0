-- `starting::given::any_empty` meets its contract. The invariant: what is left has an empty cell exactly where the whole has.
-- Assumes nothing.
use mathlib.Core.Path.{refl}
use native.Mathlib.Omega.{arith}
use Rattle.starting.proofs.GivenLaws.{empty-turn, empty-found, empty-end}
use Rattle.starting.proofs.given.any_empty.Goals as goal

pub loop-cell-init : goal.loop-cell-init
loop-cell-init c = (omega arith, refl)

pub returns-then-domains-cell-eq0 : goal.returns-then-domains-cell-eq0
returns-then-domains-cell-eq0 c =
    empty-found _ c.loop-cell-test.true c.if-domains-cell-eq0.true c.loop-cell.invariant.1

pub loop-cell-preserved : goal.loop-cell-preserved
loop-cell-preserved c =
    (omega arith, empty-turn _ c.loop-cell-test.true c.if-domains-cell-eq0.false c.loop-cell.invariant.1)

pub returns : goal.returns
returns c = empty-end _ c.loop-cell-test.false c.loop-cell.invariant.1
