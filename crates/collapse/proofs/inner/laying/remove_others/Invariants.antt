-- `collapse::inner::laying::remove_others` meets its contract. The invariant: what is asked for leads from the slices now to the same as from those at entry, and they
-- are as they must be. The measure is the cell's word.
-- Assumes nothing.
use mathlib.Core.List.{List}
use mathlib.Core.Path.{◌≡◌}
use Prim.Native.Nat.{ℕ}
use lib.ListN.{length, get_or}
use Rattle.words.specs.Words.{without}
use Rattle.consistency.specs.Worklist.{forbids}
use Rattle.consistency.specs.Start.{others}
use Rattle.notes.specs.Beside.{beside, lessened}
use Rattle.propagation.specs.Lent.{state_of}
use Rattle.collapse.proofs.StepLaws.{Striking}
use Rattle.collapse.proofs.inner.laying.remove_others.Given as goal

abbrev pub invariant-loop-left : goal.invariant-loop-left
invariant-loop-left l =
    (l.left ≡ without (get_or l.domains l.cell 0) l.pattern)
    × ((marks : List ℕ) → forbids l.count (lessened l.weights) (others l.count l.cell l.pattern) (state_of l.count l.domains l.counts l.pending l.next (beside l.floats marks))
    ≡ forbids l.count (lessened l.weights) (others l.count l.cell l.pattern) (state_of l.count l.initial.domains l.initial.counts l.initial.pending l.initial.next (beside l.initial.floats marks)))
    × Striking l.count (length l.initial.domains) l.initial.counts l.initial.pending l.initial.floats l.domains l.counts l.pending l.floats l.next

abbrev pub decreases-loop-left : goal.decreases-loop-left
decreases-loop-left l = get_or l.domains l.cell 0
