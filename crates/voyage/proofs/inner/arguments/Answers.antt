use Rattle.std.proofs.Common.{arith}
use Rattle.command.proofs.ArgumentLaws.{asked_none, asked_more}
use Rattle.voyage.proofs.inner.arguments.Goals as goal

pub loop-i-init : goal.loop-i-init
loop-i-init g c = (omega arith, omega arith, asked_none _ _ c.begin-plan.ensures)

pub loop-i-preserved : goal.loop-i-preserved
loop-i-preserved g c =
    let turn = c.loop-i.invariant in
    (omega arith, omega arith, asked_more _ _ _ _ turn.0 turn.2 c.take-plan.ensures)
