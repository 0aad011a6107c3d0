-- `propagation::inner::propagator::remove` meets its contract: a pattern that is possible has a place among the counts, and its removal has room on the pile.
-- Assumes nothing.
use Prim.Native.Nat.{◌+◌, ◌*◌, ◌<◌}
use native.Mathlib.Omega.{arith}
use lib.Dec.{lit<}
use lib.ListN.{length}
use Rattle.adjacency.proofs.WeightLaws.{true-weighted, weight-light}
use Rattle.propagation.proofs.LentLaws.{slot_small, place-below, pile_low, remove-is}
use Rattle.propagation.proofs.inner.propagator.remove.Goals as goal
use Rattle.propagation.proofs.inner.propagator.remove.Goals.{Start}

small : (s : Start) → s.args.cell * s.args.count + s.args.pattern < 65536
small s = slot_small s.requires.lent s.requires.cell_in_bounds.0 s.requires.cell_in_bounds.1

low : (s : Start) → s.args.pile.top < length s.args.pending.now
low s = pile_low s.requires.lent s.requires.cell_in_bounds.0 s.requires.cell_in_bounds.1 s.requires.cell_in_bounds.2

pub overflow_mul-slot : goal.overflow_mul-slot
overflow_mul-slot c = omega (arith, small (goal.at.overflow_mul-slot c).Start)

pub overflow_add-slot : goal.overflow_add-slot
overflow_add-slot c = omega (arith, small (goal.at.overflow_add-slot c).Start)

pub overflow_mul-slot-2 : goal.overflow_mul-slot-2
overflow_mul-slot-2 c = omega (arith, small (goal.at.overflow_mul-slot-2 c).Start)

pub clear_all_directions-requires : goal.clear_all_directions-requires
clear_all_directions-requires c =
    place-below c.requires.lent c.requires.cell_in_bounds.0 c.requires.cell_in_bounds.1 3 (lit< tt)

pub narrow-requires : goal.narrow-requires
narrow-requires c = small (goal.at.narrow-requires c).Start

pub offset_bounds-pending-top : goal.offset_bounds-pending-top
offset_bounds-pending-top c = omega (arith, low (goal.at.offset_bounds-pending-top c).Start)

pub bounds-pending-top : goal.bounds-pending-top
bounds-pending-top c = low (goal.at.bounds-pending-top c).Start

pub lessen-requires : goal.lessen-requires
lessen-requires c =
    let (weighed, valued, logs) = c.requires.weighed in
    (logs, weight-light weighed c.args.pattern, λ n. omega (arith, valued c.args.pattern (true-weighted _ _ (omega arith)), c.requires.cell_in_bounds.0))

pub overflow_add-result : goal.overflow_add-result
overflow_add-result c = omega (arith, low (goal.at.overflow_add-result c).Start)

pub returns : goal.returns
returns c =
    remove-is _ _ _ _ _ _ _ c.requires.cell_in_bounds.1 (low (goal.at.returns c).Start) c.without_pattern-word.ensures c.clear_all_directions.ensures c.narrow.ensures
    c.lessen.ensures
