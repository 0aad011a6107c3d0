use Rattle.voyage.proofs.KeptLaws.{seen, kept-longer}
use Rattle.voyage.proofs.inner.sheets.longer.Goals as goal

-- the front fills the memory, and the rest was judged
pub returns : goal.returns
returns g c = kept-longer (seen c.start.ensures c.past.ensures) c.told-memory c.in_ok-reached.ensures c.formed.ensures
