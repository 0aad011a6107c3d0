use Rattle.voyage.proofs.KeptLaws.{seen, front-whole}
use Rattle.voyage.proofs.inner.sheets.whole.Goals as goal

-- the scan has seen all there is
pub returns : goal.returns
returns c h = front-whole (seen c.start.ensures c.past.ensures) h c.formed.ensures
