use Rattle.replay.proofs.InputLaws.{whole-front}
use Rattle.replay.proofs.cases.next.Goals as goal

pub rest-requires : goal.rest-requires
rest-requires g c = whole-front c.in-Some.number c.sheet.new.memory c.in_ok-formed.ensures
