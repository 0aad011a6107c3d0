-- `logarithms::inner::w_log_w` meets its contract: a weight of which a front has the logarithm is a float as it stands.
-- Assumes nothing.
use Prim.Native.Nat.{◌^◌}
use native.Mathlib.Omega.{arith}
use lib.Dec.{le→leb}
use lib.Ieee.{in_float}
use Rattle.logarithms.specs.Entropy.{w_log_w}
use Rattle.logarithms.proofs.LogLaws.{front_long}
use Rattle.logarithms.proofs.inner.w_log_w.Goals as goal

pub int_to_float-result : goal.int_to_float-result
unfolding in_float
int_to_float-result c =
    le→leb c.args.weight (2 ^ 24) (omega (arith, c.requires, front_long c.args.logs.now c.requires.0))

pub returns : goal.returns
unfolding w_log_w
returns c = rw c.log2.ensures
