-- `scan::inner::past` meets its contract: the bytes that are left take the state that is reached to where all of them take the first.
-- Assumes nothing.
use mathlib.Core.Path.{refl}
use native.Mathlib.Omega.{arith}
use Rattle.scan.specs.Scanning.{step, past}
use Rattle.loops.proofs.LoopLaws.{each_turn, each-end}
use Rattle.scan.proofs.inner.past.Goals as goal

pub loop-byte-init : goal.loop-byte-init
loop-byte-init c = refl

pub loop-byte-preserved : goal.loop-byte-preserved
loop-byte-preserved c = each_turn step c.args.bytes.now c.loop-byte-test.true refl c.step-reached.ensures c.loop-byte.invariant

pub returns : goal.returns
unfolding past
returns c = (each-end step c.args.bytes.now c.loop-byte-test.false c.loop-byte.invariant, λ k. omega (arith, c.type_inv.bytes k))
