-- A run as it is called: what the refusals leave, that a refusal changes nothing, and that no second outcome fits.
-- Follows docs/RULES.md, "Run" and "Refusals". Assumes nothing.
use mathlib.Core.Bool.{Bool, false, not, cond, ◌||◌}
use mathlib.Core.List.{List}
use mathlib.Core.Path.{◌≡◌}
use Prim.Native.Nat.{ℕ, suc, ◌+◌, ◌*◌, ◌≤◌}
use lib.Dec.{ltb, eqb}
use lib.ListN.{length}
use borrow.Author.Tests.{eqb-true, ltb-false, not-false}
use Rattle.refusals.specs.Refusals.{first_of, refused}
use Rattle.adjacency.specs.Checks.{bad_count, weights_misfit, offsets_misfit, over_weight, bad_list, disagree}
use Rattle.grid.specs.Grid.{cells, bad_size, bad_wrap, Sized}
use Rattle.notes.specs.Blocks.{blocks}
use Rattle.forbids.specs.declared.Forbid.{Forbid}
use Rattle.course.specs.Run.{Given, run_of}
use Rattle.course.specs.Course.{Lawful}
use Rattle.course.specs.Called.{Memory, Room, room_of, Measured, bad_memory, bad_lengths, base_tests, tests_of, outcome, finished, outcome_at, called_of}
use Rattle.loops.proofs.TestLaws.{neither}
use Rattle.refusals.proofs.RefusalLaws.{first-passed}
use Rattle.adjacency.proofs.WeightLaws.{weighed}
use Rattle.adjacency.proofs.AcceptedLaws.{accepted_by}
use Rattle.grid.proofs.GridLaws.{sized_of}
use Rattle.forbids.proofs.ForbidLaws.{passed-placed}

-- ---- what the refusals leave

-- the table, the grid and the forbids are lawful, there are not too many of those, and every lent slice has its length
pub record Granted (lent : ℕ) (i : Given) (fs : List Forbid) (m : Memory) : Type 0 where
  pub lawful : Lawful i fs
  pub sized : Sized i.grid
  pub few : lent ≤ 4096
  pub noise : length i.noise ≡ cells i.grid
  pub memory : Measured i.table.count (cells i.grid) m

-- two lengths that are tested to be the same
long : (m n : ℕ) → not (eqb m n) ≡ false → m ≡ n
long m n e = eqb-true m n (not-false _ e)

granted-memory : (P n : ℕ) (m : Memory) → bad_memory P n (room_of m) ≡ false → Measured P n m
unfolding bad_memory
granted-memory P n m e =
    let domains = not (eqb (length m.domains) n) in
    let counts = not (eqb (length m.counts) (n * P * 4)) in
    let pending = not (eqb (length m.pending) (n * P)) in
    let floats = not (eqb (length m.floats) (2 * n)) in
    let (d, m₅) = neither (domains || counts || pending || floats) (not (eqb (length m.marks) (2 * n + blocks n))) e in
    let (c, m₄) = neither (domains || counts || pending) floats d in
    let (b, m₃) = neither (domains || counts) pending c in
    let (m₁, m₂) = neither domains counts b in
    record { domains = long _ _ m₁; counts = long _ _ m₂; pending = long _ _ m₃; floats = long _ _ m₄; marks = long _ _ m₅ }

-- what the lengths that are not refused are
pub lengths_granted : (P n : ℕ) (weights offsets noise : List ℕ) (forbids : ℕ) (r : Room) → bad_lengths P n weights offsets noise forbids r ≡ false
    → (weights_misfit P weights ≡ false) × (offsets_misfit P offsets ≡ false) × (length noise ≡ n) × (bad_memory P n r ≡ false) × (forbids ≤ 4096)
unfolding bad_lengths
lengths_granted P n weights offsets noise forbids r e =
    let (rest, few) = neither (weights_misfit P weights || offsets_misfit P offsets || not (eqb (length noise) n) || bad_memory P n r) (ltb 4096 forbids) e in
    let (rest, room) = neither (weights_misfit P weights || offsets_misfit P offsets || not (eqb (length noise) n)) (bad_memory P n r) rest in
    let (rest, noises) = neither (weights_misfit P weights || offsets_misfit P offsets) (not (eqb (length noise) n)) rest in
    let (each, offset) = neither (weights_misfit P weights) (offsets_misfit P offsets) rest in
    (each, offset, long _ _ noises, room, ltb-false 4096 forbids few)

-- where nothing is refused, all of that is granted
pub called-granted : (lent : ℕ) (i : Given) (fs : List Forbid) (m : Memory) → first_of (tests_of lent i fs m) ≡ 0 → Granted lent i fs m
unfolding tests_of
called-granted lent i fs m e =
    let (count, (size, (wrap, (lengths, (weight, (list, (agreement, placed))))))) = first-passed (tests_of lent i fs m) e in
    let P = i.table.count in
    let (weights, offsets, noise, room, few) = lengths_granted P (cells i.grid) i.weights i.table.offsets i.noise lent (room_of m) lengths in
    record {
      lawful =
          record { accepted = accepted_by i.table count offsets list agreement; weighed = weighed P i.weights weights weight; placed = passed-placed i.table i.grid fs placed };
      sized = sized_of i.grid size wrap;
      few = few;
      noise = noise;
      memory = granted-memory P (cells i.grid) m room;
    }

-- ---- the first refusal

-- the refusal by the outcomes of its tests, for each end of `check`
pub base_tests-is : (i : Given) (forbids : ℕ) (r : Room) {count size wrap lengths weight list agreement : Bool}
    → bad_count i.table.count ≡ count → bad_size i.grid.width i.grid.height ≡ size → bad_wrap i.grid.mode ≡ wrap
    → bad_lengths i.table.count (cells i.grid) i.weights i.table.offsets i.noise forbids r ≡ lengths → over_weight i.weights ≡ weight
    → bad_list i.table ≡ list → disagree i.table ≡ agreement
    → first_of (base_tests i forbids r) ≡ cond count 3 (cond size 1 (cond wrap 2 (cond lengths 5 (cond weight 4 (cond list 6 (cond agreement 7 0))))))
unfolding base_tests first_of
base_tests-is i forbids r a b c d e f h = rw (a, b, c, d, e, f, h)

-- ---- the outcome

module _ (lent : ℕ) (i : Given) (fs : List Forbid) (words : List ℕ) (m : Memory) where
  -- where nothing is refused it is the run's
  pub called-accepted : first_of (tests_of lent i fs m) ≡ 0 → called_of lent i fs words m ≡ finished (run_of i fs words) m
  unfolding called_of outcome_at
  called-accepted e = rw e

  -- a refusal changes nothing, and tells its number alone
  pub refused_same : (n : ℕ) → first_of (tests_of lent i fs m) ≡ suc n → called_of lent i fs words m ≡ outcome (refused (suc n)) m
  unfolding called_of outcome_at
  refused_same n e = rw e
