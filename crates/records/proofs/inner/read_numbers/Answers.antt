-- `records::inner::read_numbers` meets its contract.
-- Assumes nothing.
use mathlib.Core.Path.{◌∙◌}
use native.Mathlib.Omega.{arith}
use lib.ListN.{length-set}
use Rattle.records.proofs.NumberLaws.{read-turn, read-end}
use Rattle.records.proofs.inner.read_numbers.Goals as goal

pub loop-i-preserved : goal.loop-i-preserved
loop-i-preserved c =
    let bytes = c.args.bytes.now in
    let loop = c.loop-i in
    (simp length-set loop.invariant.0, rw c.u16_at.ensures.0 (read-turn bytes loop.out loop.i (omega arith)) ∙ loop.invariant.1)

pub returns : goal.returns
returns c = read-end c.args.bytes.now c.loop-i.out c.loop-i.i (omega arith) (omega arith) ∙ c.loop-i.invariant.1
