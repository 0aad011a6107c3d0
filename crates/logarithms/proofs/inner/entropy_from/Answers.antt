-- `logarithms::inner::entropy_from` meets its contract: a sum of which a front has the logarithm is a float as it stands.
-- Assumes nothing.
use Prim.Native.Nat.{◌^◌}
use native.Mathlib.Omega.{arith}
use lib.Dec.{le→leb}
use lib.Ieee.{in_float}
use Rattle.logarithms.specs.Entropy.{entropy}
use Rattle.logarithms.proofs.LogLaws.{front_long}
use Rattle.logarithms.proofs.inner.entropy_from.Goals as goal

pub int_to_float-result : goal.int_to_float-result
unfolding in_float
int_to_float-result c =
    le→leb c.args.sum (2 ^ 24) (omega (arith, c.requires, front_long c.args.logs.now c.requires.0))

pub returns : goal.returns
unfolding entropy
returns c = rw c.log2.ensures
