use Rattle.scan.proofs.ScanLaws.{reached_none, reached_more}
use Rattle.voyage.proofs.KeptLaws.{next-some}
use Rattle.voyage.proofs.inner.sheets.rest.Goals as goal

pub loop-init : goal.loop-init
loop-init g c = reached_none _

pub returns-then-bad : goal.returns-then-bad
returns-then-bad g c = reached_more c.loop.invariant (next-some c.in_ok-next.ensures c.in-Some.is)

pub loop-preserved : goal.loop-preserved
loop-preserved g c = reached_more c.loop.invariant (next-some c.in_ok-next.ensures c.in-Some.is)
