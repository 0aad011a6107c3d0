-- Laws of the stages of a call: one after the other they come to what the call comes to, and each leaves the slices as the next must find them.
-- Follows docs/RULES.md, "Run" and "Refusals". Assumes nothing.
use mathlib.Core.Bool.{Bool, true, false, cond}
use mathlib.Core.List.{List, ◌∷◌, ◌++◌, []}
use mathlib.Core.Path.{◌≡◌, refl, ◌∙◌, sym, ap}
use Prim.Native.Nat.{ℕ, zero, suc, ◌+◌, ◌<◌}
use native.Mathlib.Numerals.{add-one}
use lib.ListN.{length, replicate}
use Rattle.std.specs.Prelude.{Result, Ok, Err}
use Rattle.refusals.specs.declared.Refusal.{Refusal}
use Rattle.refusals.specs.Refusals.{first_of, answer, number, number_of}
use Rattle.grid.specs.Grid.{cells}
use Rattle.consistency.specs.Worklist.{State}
use Rattle.consistency.specs.Start.{start}
use Rattle.notes.specs.Beside.{Beside}
use Rattle.forbids.specs.declared.Forbid.{Forbid}
use Rattle.course.specs.Run.{Given, begun, laid, laid_all, Ended, ended, collapse, run_of}
use Rattle.forbids.specs.Forbids.{Placed, forbid_tests}
use Rattle.course.specs.Called.{Memory, Room, room_of, Measured, base_tests, tests_of, outcome, cleared, finished, called_of}
use Rattle.run.specs.Answers.{answer_told}
use Rattle.run.specs.Stages.{Stage, refused_at, contradicted, standing, state_in, begun_as, stage_of, Standing, begin_at, first_bad, beginning, lay_at, lay, lay_all, concluding}
use Rattle.refusals.proofs.RefusalLaws.{first-append, number_of-positive}
use Rattle.course.proofs.StateLaws.{forbade-settled}
use Rattle.course.proofs.TurnLaws.{collapse-over}
use Rattle.collapse.proofs.TurnsLaws.{turn-empty}
use Rattle.course.proofs.CalledLaws.{Granted, called-granted, called-accepted, refused_same}
use Rattle.forbids.proofs.ForbidLaws.{placed-append}
use Rattle.course.proofs.ForbidsLaws.{laid_all-append}

-- ---- an answer and the lent slices stand for one stage

-- the number of a stage's refusal
number_in : Stage → ℕ
number_in (refused_at n m) = n
number_in contradicted = 0
number_in (standing s) = 0

-- whether it is a contradiction
empty_in : Stage → Bool
empty_in (refused_at n m) = false
empty_in contradicted = true
empty_in (standing s) = false

-- the state of a stage, or another
state_or : State Beside → Stage → State Beside
state_or t (refused_at n m) = t
state_or t contradicted = t
state_or t (standing s) = s

module _ (P : ℕ) where
  -- the stage after the beginning tells its refusal
  begun_number : (r : Result (Unit {0}) Refusal) (m : Memory) → number_in (begun_as P r m) ≡ number_of r
  unfolding begun_as number_in number_of
  begun_number (Ok u) m = refl
  begun_number (Err r) m = refl

  -- and, while the run goes on, its state
  standing-state : (m : Memory) (s : State Beside) → standing (state_in P m) ≡ standing s → state_in P m ≡ s
  unfolding state_or
  standing-state m s e = ap (state_or s) e

  begun-state : (r : Result (Unit {0}) Refusal) (m : Memory) (s : State Beside) → number_of r ≡ 0 → begun_as P r m ≡ standing s → state_in P m ≡ s
  unfolding begun_as
  begun-state (Ok u) m s z e = standing-state m s e
  begun-state (Err r) m s z e = absurd (number_of-positive r z)

  -- the stage after a forbid tells whether it emptied a cell
  stage_empty : (b : Bool) (m : Memory) → empty_in (stage_of P b m) ≡ b
  unfolding stage_of empty_in
  stage_empty true m = refl
  stage_empty false m = refl

-- ---- the beginning

module _ (bad lent : ℕ) (i : Given) (m : Memory) where
  begin_at_lem : (n : ℕ) → number_in (begin_at n i m) ≡ n
  unfolding begin_at number_in
  begin_at_lem zero = refl
  begin_at_lem (suc n) = refl

  -- its answer is the first refusal
  begin_number : (r : Result (Unit {0}) Refusal) (m' : Memory) → begun_as i.table.count r m' ≡ beginning bad lent i m → number_of r ≡ first_bad bad lent i m
  unfolding beginning
  begin_number r m' e = sym (begun_number i.table.count r m') ∙ ap number_in e ∙ begin_at_lem (first_bad bad lent i m)

  begin_accepted : first_bad bad lent i m ≡ 0 → beginning bad lent i m ≡ standing (begun i)
  unfolding beginning begin_at
  begin_accepted e = ap (λ (n : ℕ). begin_at n i m) e

  begin_refused : (n : ℕ) → first_bad bad lent i m ≡ suc n → beginning bad lent i m ≡ refused_at (suc n) m
  unfolding beginning begin_at
  begin_refused n e = ap (λ (n : ℕ). begin_at n i m) e

-- the first refusal of all tests
first-bad : (lent : ℕ) (i : Given) (fs : List Forbid) (m : Memory)
    → first_bad (first_of (forbid_tests i.table i.grid fs)) lent i m ≡ first_of (tests_of lent i fs m)
unfolding first_bad tests_of
first-bad lent i fs m = sym (first-append (base_tests i lent (room_of m)) (forbid_tests i.table i.grid fs))

-- no cell is empty at the start
begun-whole : (i : Given) → (begun i).empty ≡ false
unfolding begun start
begun-whole i = refl

-- ---- the forbids

module _ (i : Given) where
  -- a refusal and a contradiction are kept
  pub refused-kept : (fs : List Forbid) (n : ℕ) (m : Memory) → lay_all i fs (refused_at n m) ≡ refused_at n m
  unfolding lay_all lay
  refused-kept [] n m = refl
  refused-kept (f ∷ fs) n m = refused-kept fs n m

  pub contradicted-kept : (fs : List Forbid) → lay_all i fs contradicted ≡ contradicted
  unfolding lay_all lay
  contradicted-kept [] = refl
  contradicted-kept (f ∷ fs) = contradicted-kept fs

  -- the next forbid is laid, and the rest from there
  pub laying_next : (f : Forbid) (fs : List Forbid) (m : Memory) (b : Bool) (m' : Memory)
      → stage_of i.table.count b m' ≡ lay_at i f (state_in i.table.count m)
      → lay_all i (f ∷ fs) (standing (state_in i.table.count m)) ≡ lay_all i fs (stage_of i.table.count b m')
  unfolding lay_all lay
  laying_next f fs m b m' e = sym (ap (lay_all i fs) e)

  -- a cell that is emptied ends the laying
  pub laying_stops : (fs : List Forbid) (m : Memory) → lay_all i fs (stage_of i.table.count true m) ≡ stage_of i.table.count true m
  unfolding stage_of
  laying_stops fs m = contradicted-kept fs

  -- none is left
  pub laying_done : (x : Stage) → lay_all i [] x ≡ x
  unfolding lay_all
  laying_done x = refl

  -- ---- where the forbids lead

  -- the stage at a state: contradicted where a cell is empty
  staged : State Beside → Stage
  staged s = cond s.empty contradicted (standing s)

  standing_staged : (s : State Beside) → s.empty ≡ false → standing s ≡ staged s
  unfolding staged
  standing_staged s e = sym (ap (λ (b : Bool). cond b contradicted (standing s)) e)

  lay_all_staged : (fs : List Forbid) (s : State Beside) → lay_all i fs (staged s) ≡ staged (laid_all i fs s)
  unfolding lay_all lay lay_at laid_all staged
  lay_all_staged [] s = refl
  lay_all_staged (f ∷ fs) s = go s.empty refl (lay_all_staged fs (laid i f s))
    where
      go : (b : Bool) → s.empty ≡ b → lay_all i fs (staged (laid i f s)) ≡ staged (laid_all i fs (laid i f s))
          → lay_all i fs (lay i f (cond b contradicted (standing s))) ≡ staged (cond b s (laid_all i fs (laid i f s)))
      go true e k = contradicted-kept fs ∙ sym (ap (λ (b : Bool). cond b contradicted (standing s)) e)
      go false e k = k

  -- from a state without an empty cell
  lay_all-standing : (fs : List Forbid) (s : State Beside) → s.empty ≡ false → lay_all i fs (standing s) ≡ staged (laid_all i fs s)
  lay_all-standing fs s e = ap (lay_all i fs) (standing_staged s e) ∙ lay_all_staged fs s

-- ---- the end

-- what the end leaves depends on the slices' lengths alone
finished-room : (e : Ended) (m m' : Memory) → room_of m' ≡ room_of m → finished e m' ≡ finished e m
unfolding finished
finished-room e m m' same = λ j. outcome (answer (record { end = e.end; used = e.used })) (cleared e.domains (same j))

pub concluding-room : (i : Given) (words : List ℕ) (x : Stage) (m m' : Memory) → room_of m' ≡ room_of m → concluding i words x m' ≡ concluding i words x m
unfolding concluding
concluding-room i words (refused_at n m₀) m m' same = refl
concluding-room i words contradicted m m' same =
    finished-room (ended 3 0 (replicate (length m'.domains) 0)) m m' same ∙ ap (λ (r : Room). finished (ended 3 0 (replicate r.domains 0)) m) same
concluding-room i words (standing s) m m' same = finished-room (collapse i words (cells i.grid + 1) 0 s) m m' same

-- at a state, it is the turns from there
concluding_staged : (i : Given) (words : List ℕ) (s : State Beside) (m : Memory) → length m.domains ≡ length s.domains
    → concluding i words (staged i s) m ≡ finished (collapse i words (cells i.grid + 1) 0 s) m
unfolding concluding staged
concluding_staged i words s m same = go s.empty refl
  where
    zeros : s.empty ≡ true → ended 3 0 (replicate (length m.domains) 0) ≡ collapse i words (cells i.grid + 1) 0 s
    zeros e =
        ap (λ (n : ℕ). ended 3 0 (replicate n 0)) same ∙ sym (collapse-over i words 0 s (cells i.grid) (turn-empty i words 0 s e))
        ∙ ap (λ (fuel : ℕ). collapse i words fuel 0 s) (sym (add-one (cells i.grid)))

    go : (b : Bool) → s.empty ≡ b → concluding i words (cond b contradicted (standing s)) m ≡ finished (collapse i words (cells i.grid + 1) 0 s) m
    go true e = ap (λ (x : Ended). finished x m) (zeros e)
    go false e = refl

-- ---- the whole call

module _ (lent : ℕ) (i : Given) (fs : List Forbid) (words : List ℕ) (m : Memory) where
  -- the stages come to what the call comes to
  pub called_stages : called_of lent i fs words m
      ≡ concluding i words (lay_all i fs (beginning (first_of (forbid_tests i.table i.grid fs)) lent i m)) m
  unfolding concluding run_of
  called_stages = go (first_of (tests_of lent i fs m)) refl
    where
      go : (n : ℕ) → first_of (tests_of lent i fs m) ≡ n
          → called_of lent i fs words m ≡ concluding i words (lay_all i fs (beginning (first_of (forbid_tests i.table i.grid fs)) lent i m)) m
      go zero e =
          let G = called-granted lent i fs m e in
          let s = laid_all i fs (begun i) in
          called-accepted lent i fs words m e
          ∙ sym (
          ap (λ (x : Stage). concluding i words (lay_all i fs x) m) (begin_accepted _ lent i m (first-bad lent i fs m ∙ e))
          ∙ ap (λ (x : Stage). concluding i words x m) (lay_all-standing i fs (begun i) (begun-whole i))
          ∙ concluding_staged i words s m (G.memory.domains ∙ sym (forbade-settled i fs G.lawful).safe.fit.sized)
          )
      go (suc n) e =
          refused_same lent i fs words m n e
          ∙ sym (
          ap (λ (x : Stage). concluding i words (lay_all i fs x) m)
          (begin_refused _ lent i m n (first-bad lent i fs m ∙ e))
          ∙ ap (λ (x : Stage). concluding i words x m) (refused-kept i fs (suc n) m)
          )

-- ---- what each stage leaves

module _ (i : Given) where
  -- the lengths as they were
  measured-kept : (m m' : Memory) {P n : ℕ} → room_of m' ≡ room_of m → Measured P n m → Measured P n m'
  measured-kept m m' e M =
      record {
        domains = ap (λ (r : Room). r.domains) e ∙ M.domains;
        counts = ap (λ (r : Room). r.counts) e ∙ M.counts;
        pending = ap (λ (r : Room). r.pending) e ∙ M.pending;
        floats = ap (λ (r : Room). r.floats) e ∙ M.floats;
        marks = ap (λ (r : Room). r.marks) e ∙ M.marks;
      }

  module _ (lent : ℕ) (fs : List Forbid) (m : Memory) (r : Result (Unit {0}) Refusal) (m' : Memory)
      (e : begun_as i.table.count r m' ≡ beginning (first_of (forbid_tests i.table i.grid fs)) lent i m) where
    -- the beginning: its answer is what all tests come to
    begun-tested : number_of r ≡ first_of (tests_of lent i fs m)
    begun-tested = begin_number _ lent i m r m' e ∙ first-bad lent i fs m

    module _ (z : number_of r ≡ 0) where
      -- where it accepts nothing is refused
      begun-granted : Granted lent i fs m
      begun-granted = called-granted lent i fs m (sym begun-tested ∙ z)

      -- so every forbid is of the grid
      pub begun-placed : Placed i.table.count (cells i.grid) fs
      begun-placed = begun-granted.lawful.placed

      -- and the run stands at the start
      pub begun-standing : room_of m' ≡ room_of m → Standing i m'
      unfolding laid_all
      begun-standing same =
          let G = begun-granted in
          record {
            sized = G.sized;
            heard = G.noise;
            measured = measured-kept m m' same G.memory;
            laid =
                record {
                  forbids = [];
                  lawful = record { accepted = G.lawful.accepted; weighed = G.lawful.weighed; placed = tt };
                  is =
                      begun-state i.table.count r m' (begun i) z
                      (e ∙ begin_accepted _ lent i m (sym (begin_number _ lent i m r m' e) ∙ z));
                };
          }

  -- forbids from where the run stands: whether one emptied a cell, and where none did the run stands again
  module _ (fs : List Forbid) (m : Memory) (S : Standing i m) (b : Bool) (m' : Memory)
      (e : stage_of i.table.count b m' ≡ lay_all i fs (standing (state_in i.table.count m))) where
    abbrev after : State Beside
    after = laid_all i fs (state_in i.table.count m)

    laid-stage : stage_of i.table.count b m' ≡ staged i after
    laid-stage = e ∙ lay_all-standing i fs (state_in i.table.count m) refl

    laid-empty : b ≡ after.empty
    unfolding staged empty_in
    laid-empty = sym (stage_empty i.table.count b m') ∙ ap empty_in laid-stage ∙ go after.empty
      where
        go : (x : Bool) → empty_in (cond x contradicted (standing after)) ≡ x
        go true = refl
        go false = refl

    pub laid-standing : Placed i.table.count (cells i.grid) fs → room_of m' ≡ room_of m → b ≡ false → Standing i m'
    unfolding stage_of
    laid-standing placed same z =
        let L = S.laid in
        record {
          sized = S.sized;
          heard = S.heard;
          measured = measured-kept m m' same S.measured;
          laid =
              record {
                forbids = L.forbids ++ fs;
                lawful = record { accepted = L.lawful.accepted; weighed = L.lawful.weighed; placed = placed-append _ _ L.forbids fs L.lawful.placed placed };
                is =
                    standing-state i.table.count m' after
                    (ap (λ (x : Bool). stage_of i.table.count x m') (sym z) ∙ laid-stage ∙ sym (standing_staged i after (sym laid-empty ∙ z)))
                    ∙ ap (laid_all i fs) L.is ∙ sym (laid_all-append i L.forbids fs (begun i));
              };
        }

  -- one forbid from where the run stands
  pub lay_standing : (f : Forbid) (m : Memory) → Standing i m → (b : Bool) (m' : Memory) → stage_of i.table.count b m' ≡ lay_at i f (state_in i.table.count m)
      → f.cell < cells i.grid → f.pattern < i.table.count → room_of m' ≡ room_of m → b ≡ false → Standing i m'
  unfolding lay_all lay
  lay_standing f m S b m' e hc hp same = laid-standing (f ∷ []) m S b m' e (hc, hp, tt) same

-- ---- the stages of the code

module _ (lent : ℕ) (i : Given) (fs : List Forbid) (words : List ℕ) (m : Memory) (m₁ : Memory) where
  -- refused, the call comes to that
  pub refused_called : (r : Refusal) → begun_as i.table.count (Err r) m₁ ≡ beginning (first_of (forbid_tests i.table i.grid fs)) lent i m
      → outcome (answer_told (Err r)) m₁ ≡ called_of lent i fs words m
  unfolding begun_as answer_told concluding
  refused_called r began =
      sym (
      called_stages lent i fs words m ∙ ap (λ (x : Stage). concluding i words (lay_all i fs x) m) (sym began)
      ∙ ap (λ (x : Stage). concluding i words x m) (refused-kept i fs (number r) m₁)
      )

  -- one after the other: begun, then laid, then to be concluded
  pub stages_called : (b : Bool) (m₂ : Memory)
      → begun_as i.table.count (Ok tt) m₁ ≡ beginning (first_of (forbid_tests i.table i.grid fs)) lent i m
      → stage_of i.table.count b m₂ ≡ lay_all i fs (standing (state_in i.table.count m₁)) → room_of m₂ ≡ room_of m
      → concluding i words (stage_of i.table.count b m₂) m₂ ≡ called_of lent i fs words m
  unfolding begun_as
  stages_called b m₂ began laid same =
      concluding-room i words (stage_of i.table.count b m₂) m m₂ same
      ∙ ap (λ (x : Stage). concluding i words x m) (laid ∙ ap (lay_all i fs) began) ∙ sym (called_stages lent i fs words m)
