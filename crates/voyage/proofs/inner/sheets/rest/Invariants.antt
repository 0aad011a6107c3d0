use Rattle.scan.specs.Scanning.{Reached}
use Rattle.voyage.proofs.inner.sheets.rest.Given as goal

-- the bytes that were read lead from the first state to the one that is reached
abbrev pub invariant-loop : goal.invariant-loop
invariant-loop g l = Reached l.fn.state l.reached
