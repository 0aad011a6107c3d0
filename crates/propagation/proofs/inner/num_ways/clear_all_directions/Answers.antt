-- `propagation::inner::num_ways::clear_all_directions` meets its contract: no store changes the length.
-- Assumes nothing.
use native.Mathlib.Omega.{arith}
use lib.ListN.{length-set}
use Rattle.propagation.proofs.inner.num_ways.clear_all_directions.Goals as goal

pub bounds-counts-at-2 : goal.bounds-counts-at-2
bounds-counts-at-2 c = simp length-set (omega arith)

pub bounds-counts-at-3 : goal.bounds-counts-at-3
bounds-counts-at-3 c = simp length-set (omega arith)

pub bounds-counts-at-4 : goal.bounds-counts-at-4
bounds-counts-at-4 c = simp length-set (omega arith)
