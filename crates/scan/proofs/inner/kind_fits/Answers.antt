-- `scan::inner::kind_fits` meets its contract: by the place.
-- Assumes nothing.
use Rattle.std.proofs.Common.{rules}
use Rattle.scan.specs.Scanning.{kind_fits}
use Rattle.scan.proofs.inner.kind_fits.Goals as goal

pub returns-in-2 : goal.returns-in-2
unfolding kind_fits
returns-in-2 c = rw c.in-2.is

pub returns-in-1 : goal.returns-in-1
unfolding kind_fits
returns-in-1 c = rw c.in-1.is

pub returns-in_default : goal.returns-in_default
unfolding kind_fits
returns-in_default c = search rules
