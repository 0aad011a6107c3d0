-- The course of a run: each choice uses one word and leaves fewer open cells, so there are at most as many choices as cells, the run ends, and its
-- fuel is never exhausted. Follows docs/RULES.md, "Run". Assumes nothing.
use mathlib.Core.Bool.{false}
use mathlib.Core.List.{List}
use mathlib.Core.Path.{◌≡◌, refl, sym, ap, ◌∙◌, subst}
use Prim.Native.Nat.{ℕ, zero, suc, ◌+◌, ◌-◌, ◌≤◌, ◌<◌}
use native.Mathlib.Omega.{arith}
use lib.ListN.{length, get_or}
use Rattle.words.specs.Words.{how_many}
use Rattle.grid.specs.Grid.{cells}
use Rattle.consistency.specs.Domains.{possible, Sub}
use Rattle.consistency.specs.Worklist.{Removal, State}
use Rattle.consistency.specs.Start.{others}
use Rattle.consistency.specs.Parts.{removed_all}
use Rattle.notes.specs.Beside.{Beside}
use Rattle.forbids.specs.declared.Forbid.{Forbid}
use Rattle.course.specs.Run.{Given, begun, laid_all, notes_of, Ended, Turn, turn, collapse, run_of}
use Rattle.course.specs.Course.{Lawful, Reached, forbade, chose, Final}
use Rattle.consistency.proofs.DomainLaws.{pattern-below}
use Rattle.consistency.proofs.RemovalLaws.{others-inside, spared-others}
use Rattle.consistency.proofs.RemovedAllLaws.{possible-removed_all, sub-removed_all}
use Rattle.consistency.proofs.Settled.{Settled}
use Rattle.course.proofs.TurnLaws.{Chosen, counts-open, turn-over, turn_on, collapse-over, collapse-on}
use Rattle.course.proofs.StateLaws.{Stands, reduced_by-settled, reached-stands}
use Rattle.course.proofs.OpenLaws.{open_cells, open-most, open-some, open-falls}

-- ---- a choice

module _ (i : Given) (fs : List Forbid) (L : Lawful i fs) (words : List ℕ) (used : ℕ) (s : State Beside) {us : List Removal} (S : Stands i us s) (more : ℕ) (s' : State Beside) (c : Chosen i words used s more s') where
  inside : c.cell < cells i.grid
  inside = omega (arith, c.inside, S.settled.safe.fit.sized)

  -- it is made at an open cell
  pub chosen-open : 2 ≤ how_many 64 (get_or s.domains c.cell 0)
  unfolding notes_of
  chosen-open = counts-open (notes_of i s) c.cell c.counting

  -- its propagation leaves the greatest consistent subset of what is left
  pub chosen-settled : Settled i.table i.grid (removed_all (others i.table.count c.cell c.pattern) s.domains) s'
  chosen-settled =
      rw c.made
      (reduced_by-settled i L.accepted (others i.table.count c.cell c.pattern) s (others-inside _ _ _ _ inside) (S.settled.ready c.whole))

  module _ (e : s'.empty ≡ false) where
    -- it restores no pattern
    pub chosen-sub : Sub s'.domains s.domains
    chosen-sub m q h =
        sub-removed_all (others i.table.count c.cell c.pattern) s.domains m q (chosen-settled.greatest.below m q (rw (chosen-settled.left e) at h))

    -- it leaves the cell no pattern but one
    pub chosen-one : (q : ℕ) → possible s'.domains c.cell q ≡ 1 → q ≡ c.pattern
    chosen-one q h =
        (spared-others i.table.count c.cell c.pattern c.cell q (pattern-below chosen-settled.safe.fit c.cell q h)).0
        ((possible-removed_all (others i.table.count c.cell c.pattern) s.domains c.cell q).0 (chosen-settled.greatest.below c.cell q (rw (chosen-settled.left e) at h))).0
        refl

    -- it leaves fewer open cells
    pub chosen-fewer : open_cells (cells i.grid) s'.domains < open_cells (cells i.grid) s.domains
    chosen-fewer =
        open-falls (cells i.grid) s.domains s'.domains c.cell c.pattern inside
        (omega (arith, pattern-below S.settled.safe.fit c.cell c.pattern c.present, L.accepted.few)) chosen-sub chosen-open chosen-one

-- ---- how many choices there are

-- of a state after k choices: one word was used for each, no more than there are, and with the open cells they are no more than the cells
pub record Counted (i : Given) (words : List ℕ) (k used : ℕ) (s : State Beside) : Type 0 where
  pub each : used ≡ k
  pub spent : used ≤ length words
  pub few : k ≤ cells i.grid
  pub rest : s.empty ≡ false → k + open_cells (cells i.grid) s.domains ≤ cells i.grid

module _ (i : Given) (fs : List Forbid) (L : Lawful i fs) (words : List ℕ) where
  counted_chose : (k used more : ℕ) (s s' : State Beside) {us : List Removal} → Stands i us s → Chosen i words used s more s' → Counted i words k used s → Counted i words (suc k) more s'
  counted_chose k used more s s' S c C =
      record {
        each = omega (arith, c.one, C.each);
        spent = omega (arith, c.one, c.left);
        few = omega (arith, C.rest c.whole, some);
        rest = λ e. omega (arith, C.rest c.whole, chosen-fewer i fs L words used s S more s' c e);
      }
    where
      some : 0 < open_cells (cells i.grid) s.domains
      some = open-some (cells i.grid) s.domains c.cell (inside i fs L words used s S more s' c) (chosen-open i fs L words used s S more s' c)

  pub reached-counted : {k used : ℕ} {s : State Beside} → Reached i fs words k used s → Counted i words k used s
  reached-counted forbade = record { each = refl; spent = omega arith; few = omega arith; rest = λ e. omega (arith, open-most (cells i.grid) (laid_all i fs (begun i)).domains) }
  reached-counted (chose {k = k} {used = used} {more = more} {s = s} {s' = s'} r e) =
      counted_chose k used more s s' (reached-stands i fs L r) (turn_on i words used s e) (reached-counted r)

  -- ---- the run ends

  final_over : (k used : ℕ) (s : State Beside) (e : Ended) → Reached i fs words k used s → turn i words used s ≡ Turn.over e → Final i fs words e
  final_over k used s e r q =
      let u = (turn-over i words used s q).spent in
      record { choices = k; state = s; reached = rw u r; over = subst (λ (x : ℕ). turn i words x s ≡ Turn.over e) (sym u) q }

  final_from : (fuel k used : ℕ) (s : State Beside) → Reached i fs words k used s → cells i.grid < fuel + k → Final i fs words (collapse i words fuel used s)
  unfolding collapse
  final_from zero k used s r h = absurd (omega (arith, (reached-counted r).few))
  final_from (suc fuel) k used s r h = go (turn i words used s) refl (λ more s' q. final_from fuel (suc k) more s' (chose r q) (omega arith))
    where
      go : (x : Turn) → turn i words used s ≡ x → ((more : ℕ) (s' : State Beside) → turn i words used s ≡ Turn.on more s' → Final i fs words (collapse i words fuel more s'))
          → Final i fs words (elim x [ Turn.over e ↦ e | Turn.on more s' ↦ collapse i words fuel more s' ])
      go (Turn.over e) q f = final_over k used s e r q
      go (Turn.on more s') q f = f more s' q

  -- a run ends at a state that it reaches, before its fuel is exhausted
  pub run_final : Final i fs words (run_of i fs words)
  unfolding run_of
  run_final = final_from (cells i.grid + 1) 0 0 (laid_all i fs (begun i)) forbade (omega arith)

  -- the words used are as many as the choices, and at most as many as the cells and as the words
  pub used-choices : (F : Final i fs words (run_of i fs words))
      → ((run_of i fs words).used ≡ F.choices) × ((run_of i fs words).used ≤ cells i.grid) × ((run_of i fs words).used ≤ length words)
  used-choices F = let C = reached-counted F.reached in (C.each, omega (arith, C.each, C.few), C.spent)

  refuelled : (x y : ℕ) → x ≡ y → collapse i words x 0 (laid_all i fs (begun i)) ≡ collapse i words y 0 (laid_all i fs (begun i))
  refuelled x y e = ap (λ (z : ℕ). collapse i words z 0 (laid_all i fs (begun i))) e

  -- what is left of the fuel at a state that is reached
  reached-collapse : {k used : ℕ} {s : State Beside} → Reached i fs words k used s → (fuel : ℕ)
      → collapse i words (k + fuel) 0 (laid_all i fs (begun i)) ≡ collapse i words fuel used s
  reached-collapse forbade fuel = refuelled (0 + fuel) fuel (omega arith)
  reached-collapse (chose {k = k} {used = used} {s = s} r e) fuel =
      refuelled (suc k + fuel) (k + suc fuel) (omega arith) ∙ reached-collapse r (suc fuel) ∙ collapse-on i words used s fuel e

  -- from a state that is reached, the rest of the run
  pub reached-run : {k used : ℕ} {s : State Beside} → Reached i fs words k used s → run_of i fs words ≡ collapse i words (cells i.grid + 1 - k) used s
  unfolding run_of
  reached-run {k} r =
      let left = cells i.grid + 1 - k in
      refuelled (cells i.grid + 1) (k + left) (omega (arith, (reached-counted r).few)) ∙ reached-collapse r left

  -- a final state ends the run, with any fuel that is more than the cells
  pub final_collapse : {e : Ended} → Final i fs words e → (fuel : ℕ) → cells i.grid < fuel → collapse i words fuel 0 (laid_all i fs (begun i)) ≡ e
  final_collapse {e} F fuel h =
      let left = fuel - suc F.choices in
      refuelled fuel (F.choices + suc left) (omega (arith, (reached-counted F.reached).few)) ∙ reached-collapse F.reached (suc left)
      ∙ collapse-over i words e.used F.state left F.over

  -- more fuel changes nothing
  pub collapse-fuel : (fuel : ℕ) → cells i.grid < fuel → collapse i words fuel 0 (laid_all i fs (begun i)) ≡ run_of i fs words
  collapse-fuel fuel h = final_collapse run_final fuel h
