-- `adjacency::inner::fours_from` meets its contract: each entry is looked up where the definition has it.
-- Assumes nothing.
use Prim.Native.Nat.{◌+◌, ◌/◌, ◌%◌}
use native.Mathlib.Omega.{arith}
use Rattle.adjacency.specs.Fours.{fours_from}
use Rattle.adjacency.proofs.inner.fours_from.Goals as goal

pub returns : goal.returns
unfolding fours_from
returns c =
    let base = c.args.base in
    let word = c.args.word in
    let at = c.type_inv.sums in
    omega (
      arith,
      at (base + word % 16),
      at (base + 16 + word / 16 % 16),
      at (base + 32 + word / 256 % 16),
      at (base + 48 + word / 4096 % 16),
    )
