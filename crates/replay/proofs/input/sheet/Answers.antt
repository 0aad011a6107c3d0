use Rattle.replay.proofs.InputLaws.{kept-long, whole-read, whole-cut}
use Rattle.replay.proofs.input.sheet.Goals as goal

pub returns-in_err-bytes : goal.returns-in_err-bytes
returns-in_err-bytes g c = whole-cut _ _ _ c.from_residual.ensures.0

-- the front that is kept is judged, and then the rest
pub returns : goal.returns
returns g c =
    let long = kept-long c.bytes.new.out c.args.memory.now c.min-kept.result c.told-memory c.bytes.auto.out in
    whole-read c.args.many c.min-kept.result _ long c.min-kept.ensures c.start.ensures c.past.ensures.1 c.past.ensures.0 c.judge.result c.judge.ensures
