use Rattle.std.proofs.Common.{arith}
use Rattle.voyage.proofs.inner.laid_from_practice.Goals as goal

pub laid-requires : goal.laid-requires
laid-requires g c = c.whole-formed.ensures (omega (arith, c.told-sheet))
