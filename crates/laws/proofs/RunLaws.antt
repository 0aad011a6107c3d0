-- How a run ends, told of the run itself: what it writes is the greatest consistent subset of full domains less all that was asked to go, and each end
-- is exactly what it says of the last state. A call that is not refused is lawful and comes to this run (`called-run`). Follows docs/RULES.md, "Run" and "Propagation". Assumes nothing.
use mathlib.Core.Bool.{true, false}
use mathlib.Core.List.{List, ◌++◌}
use mathlib.Core.Logic.{◌↔◌}
use Rattle.std.specs.Prelude.{Some}
use mathlib.Core.Path.{◌≡◌, sym, ap, ◌∙◌, subst}
use Prim.Native.Nat.{ℕ, suc, ◌+◌, ◌-◌, ◌≤◌, ◌<◌}
use native.Mathlib.Omega.{arith}
use lib.ListN.{length, get_or, replicate}
use Rattle.words.specs.Words.{how_many}
use Rattle.refusals.specs.Refusals.{first_of}
use Rattle.adjacency.specs.Tables.{InList}
use Rattle.grid.specs.Grid.{cells, neighbour}
use Rattle.consistency.specs.Domains.{possible, emptied, settled_as}
use Rattle.consistency.specs.Consistent.{Greatest}
use Rattle.consistency.specs.Worklist.{State}
use Rattle.notes.specs.Beside.{Beside}
use Rattle.choice.specs.Observer.{counts_at}
use Rattle.forbids.specs.declared.Forbid.{Forbid}
use Rattle.course.specs.Run.{Given, begun, laid_all, notes_of, Turn, turn, run_of}
use Rattle.course.specs.Course.{Lawful, full_less, wanted, turned_off, Reached, forbade, chose, removals, Final, Last, last, last_from, last_of}
use Rattle.course.specs.Called.{Memory, tests_of, finished, called_of}
use Rattle.course.proofs.CourseLaws.{reached-counted, run_final}
use Rattle.course.proofs.EndLaws.{end-most, end-written, end-settled, end-greatest, end-decided, end_undecided, end-paused, end_contradiction, decided-means, contradiction_means}
use Rattle.course.proofs.CalledLaws.{called-granted, called-accepted}

-- ---- the last state

module _ (i : Given) (words : List ℕ) (used fuel : ℕ) (l : Last) where
  last-over : {e : _} → turn i words used l.state ≡ Turn.over e → last_from i words (suc fuel) used l ≡ l
  unfolding last_from
  last-over q = rw (q, last_from)

  last_on : {more : ℕ} {s : State Beside} → turn i words used l.state ≡ Turn.on more s
      → last_from i words (suc fuel) used l ≡ last_from i words fuel more (last s (l.gone ++ turned_off i words used l.state))
  unfolding last_from
  last_on q = rw (q, last_from)

module _ (i : Given) (fs : List Forbid) (L : Lawful i fs) (words : List ℕ) where
  -- the state after the forbids, and all that they ask to go
  abbrev first : Last
  first = last (laid_all i fs (begun i)) (wanted i.table.count fs)

  refuelled : (x y : ℕ) → x ≡ y → last_from i words x 0 first ≡ last_from i words y 0 first
  refuelled x y e = ap (λ (z : ℕ). last_from i words z 0 first) e

  -- what is left of the fuel at a state that is reached
  reached-last : {k used : ℕ} {s : State Beside} (r : Reached i fs words k used s) (fuel : ℕ)
      → last_from i words (k + fuel) 0 first ≡ last_from i words fuel used (last s (removals i fs words r))
  unfolding removals
  reached-last forbade fuel = refuelled (0 + fuel) fuel (omega arith)
  reached-last (chose {k = k} {used = used} {s = s} r e) fuel =
      refuelled (suc k + fuel) (k + suc fuel) (omega arith) ∙ reached-last r (suc fuel) ∙ last_on i words used fuel (last s (removals i fs words r)) e

  -- a run that ends at a state has it as its last, with all that was asked to go until then
  pub final_last : (F : Final i fs words (run_of i fs words)) → last_of i fs words ≡ last F.state (removals i fs words F.reached)
  unfolding last_of
  final_last F =
      let left = cells i.grid - F.choices in
      refuelled (cells i.grid + 1) (F.choices + suc left) (omega (arith, (reached-counted i fs L words F.reached).few))
      ∙ reached-last F.reached (suc left)
      ∙ last-over i words (run_of i fs words).used left (last F.state (removals i fs words F.reached)) F.over

  -- what holds where the run ends holds of its last state
  at_last : (A : Last → Type 0) → ((F : Final i fs words (run_of i fs words)) → A (last F.state (removals i fs words F.reached))) → A (last_of i fs words)
  at_last A f = let F = run_final i fs L words in subst A (sym (final_last F)) (f F)

  -- ---- what is written

  -- the last state, or zeros where it has an empty cell
  pub run-written : (run_of i fs words).domains ≡ settled_as (last_of i fs words).state.domains
  run-written = at_last (λ l. (run_of i fs words).domains ≡ settled_as l.state.domains) (λ F. end-written i fs L words F)

  -- whatever the end, it is what is written of the greatest consistent subset of full domains less all that was asked to go; the end is Contradiction
  -- exactly where that has an empty cell
  pub run-greatest : (G : List ℕ) → Greatest i.table i.grid (full_less i (last_of i fs words).gone) G
      → ((run_of i fs words).domains ≡ settled_as G) × (((run_of i fs words).end ≡ 3) ↔ (emptied G ≡ true))
  run-greatest =
      at_last
      (λ l. (G : List ℕ) → Greatest i.table i.grid (full_less i l.gone) G → ((run_of i fs words).domains ≡ settled_as G) × (((run_of i fs words).end ≡ 3) ↔ (emptied G ≡ true)))
      (λ F. end-settled i fs L words F)

  -- where the end is not Contradiction it is that subset itself
  pub run-consistent : ((run_of i fs words).end ≡ 3 → ⊥) → Greatest i.table i.grid (full_less i (last_of i fs words).gone) (run_of i fs words).domains
  run-consistent whole =
      at_last (λ l. Greatest i.table i.grid (full_less i l.gone) (run_of i fs words).domains) (λ F. end-greatest i fs L words F whole)

  -- ---- each end exactly

  -- there are four
  pub run-most : (run_of i fs words).end ≤ 3
  run-most = end-most i fs L words (run_final i fs L words)

  -- Decided exactly where every cell has one pattern
  pub run-decided : ((run_of i fs words).end ≡ 0) ↔ ((c : ℕ) → c < cells i.grid → how_many i.table.count (get_or (run_of i fs words).domains c 0) ≡ 1)
  run-decided = end-decided i fs L words (run_final i fs L words)

  -- and then no list is violated
  pub run_solved : (run_of i fs words).end ≡ 0 → (c p d n q : ℕ) → d < 4 → neighbour i.grid c d ≡ Some n → possible (run_of i fs words).domains c p ≡ 1
      → possible (run_of i fs words).domains n q ≡ 1 → InList i.table p d q
  run_solved z = (decided-means i fs L words (run_final i fs L words) z).1

  -- Undecided exactly where no cell is empty, no note counts at the last state, and some cell has more than one pattern
  pub run_undecided : ((run_of i fs words).end ≡ 1)
      ↔ ((emptied (run_of i fs words).domains ≡ false) × ((c : ℕ) → c < cells i.grid → counts_at (notes_of i (last_of i fs words).state) c ≡ false)
      × ((c : ℕ) × (c < cells i.grid) × (2 ≤ how_many i.table.count (get_or (run_of i fs words).domains c 0))))
  run_undecided =
      at_last
      (λ l. ((run_of i fs words).end ≡ 1)
      ↔ ((emptied (run_of i fs words).domains ≡ false) × ((c : ℕ) → c < cells i.grid → counts_at (notes_of i l.state) c ≡ false)
      × ((c : ℕ) × (c < cells i.grid) × (2 ≤ how_many i.table.count (get_or (run_of i fs words).domains c 0)))))
      (λ F. end_undecided i fs L words F)

  -- Paused exactly where no cell is empty, some note counts at the last state, and no word is left
  pub run-paused : ((run_of i fs words).end ≡ 2)
      ↔ ((emptied (run_of i fs words).domains ≡ false) × ((c : ℕ) × (c < cells i.grid) × (counts_at (notes_of i (last_of i fs words).state) c ≡ true))
      × ((run_of i fs words).used ≡ length words))
  run-paused =
      at_last
      (λ l. ((run_of i fs words).end ≡ 2)
      ↔ ((emptied (run_of i fs words).domains ≡ false) × ((c : ℕ) × (c < cells i.grid) × (counts_at (notes_of i l.state) c ≡ true)) × ((run_of i fs words).used ≡ length words)))
      (λ F. end-paused i fs L words F)

  -- Contradiction exactly where a cell is empty
  pub run_contradiction : ((run_of i fs words).end ≡ 3) ↔ (emptied (run_of i fs words).domains ≡ true)
  run_contradiction = end_contradiction i fs L words (run_final i fs L words)

  -- and then every domain is written as zero
  pub run-zero : (run_of i fs words).end ≡ 3 → (run_of i fs words).domains ≡ replicate (cells i.grid) 0
  run-zero = contradiction_means i fs L words (run_final i fs L words)

-- ---- the call

-- where nothing is refused, what is given is lawful, and the call comes to the run: it tells the run's end and words, and leaves the run's domains
pub called-run : (lent : ℕ) (i : Given) (fs : List Forbid) (words : List ℕ) (m : Memory) → first_of (tests_of lent i fs m) ≡ 0
    → Lawful i fs × (called_of lent i fs words m ≡ finished (run_of i fs words) m)
called-run lent i fs words m e = ((called-granted lent i fs m e).lawful, called-accepted lent i fs words m e)
