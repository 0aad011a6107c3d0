-- `logarithms::inner::log2` meets its contract: what is lent is a front of the list of the definitions.
-- Assumes nothing.
use native.Mathlib.Omega.{arith}
use Rattle.logarithms.proofs.LogLaws.{front_long, front_at}
use Rattle.logarithms.proofs.inner.log2.Goals as goal

pub offset_bounds-logs-n : goal.offset_bounds-logs-n
offset_bounds-logs-n c = omega (arith, c.requires, front_long c.args.logs.now c.requires.0)

pub bounds-logs-n : goal.bounds-logs-n
bounds-logs-n c = omega (arith, c.requires)

pub returns : goal.returns
returns c =
    let a = c.args in
    let (front, some, few) = c.requires in
    front_at a.logs.now a.n front some few
