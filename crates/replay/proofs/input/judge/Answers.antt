use Rattle.std.proofs.Common.{arith, rules}
use Rattle.std.proofs.lemmas.List.{length-take-le}
use Rattle.replay.proofs.InputLaws.{led_none, led_more, rest-formed, rest-cut}
use Rattle.replay.proofs.input.judge.Goals as goal

pub loop-left-init : goal.loop-left-init
loop-left-init g c = (search rules, omega arith, led_none _ (omega arith))

pub returns-in_err-bytes : goal.returns-in_err-bytes
returns-in_err-bytes g c = rest-cut _ _ _ c.from_residual.ensures.0

-- a part more
pub loop-left-preserved : goal.loop-left-preserved
loop-left-preserved g c =
    let (room, some, led) = c.loop-left.invariant in
    (search rules, omega (arith, some), led_more led _ c.past-reached.ensures.1 c.past-reached.ensures.0 (length-take-le _ _ (search rules)) (omega (arith, some, c.min-part.ensures)))

pub returns : goal.returns
returns g c = rest-formed c.loop-left.invariant.2 (omega (arith, c.loop-left-test.false)) c.formed.ensures
