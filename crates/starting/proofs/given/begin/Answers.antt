-- `starting::given::begin` meets its contract: full counts, less what the domains lack.
-- Assumes nothing.
use native.Mathlib.Nat.{mul-le-mul_right}
use native.Mathlib.Omega.{arith}
use Rattle.adjacency.specs.Tables.{table}
use Rattle.starting.proofs.SettleLaws.{begin_is}
use Rattle.starting.proofs.given.begin.Goals as goal

pub start_counts-requires : goal.start_counts-requires
start_counts-requires c =
    (c.requires.0, omega (arith, c.requires.1.counted, mul-le-mul_right c.args.count c.requires.1.one))

pub returns : goal.returns
returns c =
    begin_is (table c.args.count c.args.offsets.now c.args.ids.now) _ c.lack-top.new.pending _ (c.start_counts.ensures _ c.requires.1.counted) c.lack-top.ensures c.any_empty.ensures
