-- `choice::observer::scan` meets its contract: after each turn the best is that of the cells passed.
-- Assumes nothing.
use mathlib.Core.Path.{◌≡◌, ◌∙◌}
use native.Mathlib.Omega.{arith}
use Rattle.choice.proofs.ObserverLaws.{scan-start, scan-turn}
use Rattle.choice.proofs.BestLaws.{best_none}
use Rattle.choice.proofs.observer.scan.Goals as goal

pub loop-c-init : goal.loop-c-init
loop-c-init c = (omega arith, omega arith, omega arith, best_none _ _ ∙ scan-start _ _)

pub step-best-requires : goal.step-best-requires
step-best-requires c = (c.requires.0, c.loop-c.invariant.2, omega arith)

pub loop-c-preserved : goal.loop-c-preserved
loop-c-preserved c = (omega arith, omega arith, c.step-best.ensures.0, scan-turn _ _ c.loop-c.invariant.0 c.loop-c.invariant.3 c.step-best.ensures.1)

pub returns : goal.returns
returns c =
    let e : c.loop-c.c ≡ c.args.end = omega arith in
    rw (← e) c.loop-c.invariant.3
