-- The laws that the walks of `check_all` and of `run` cite: of the first refusal of the forbids, and of the stages of a call.
-- Follows docs/RULES.md, "Run" and "Refusals". Assumes nothing.
use mathlib.Core.Bool.{Bool, true, false}
use mathlib.Core.List.{List}
use mathlib.Core.Path.{◌≡◌, sym, ◌∙◌, subst, ap}
use Prim.Native.Nat.{ℕ, suc, ◌+◌, ◌≤◌, ◌<◌}
use native.Mathlib.Numerals.{add-one}
use lib.ListN.{length, drop, drop_of_length-le}
use lib.Seq.{drop-cons}
use Rattle.refusals.specs.Refusals.{first_of}
use Rattle.grid.specs.Grid.{cells}
use Rattle.forbids.specs.declared.Forbid.{Forbid}
use Rattle.course.specs.Run.{Given}
use Rattle.forbids.specs.Forbids.{Placed, forbid_tests}
use Rattle.course.specs.Called.{Memory, room_of, Outcome, called}
use Rattle.std.specs.Prelude.{Ok}
use Rattle.run.specs.Stages.{Stage, state_in, begun_as, stage_of, contradicted, standing, Standing, beginning, lay_at, lay_all, concluding}
use Rattle.forbids.proofs.RecordLaws.{no_forbid, lent_at, placed_at}
use Rattle.refusals.proofs.RefusalLaws.{number_of-accepted}
use Rattle.run.proofs.StageLaws.{laying_stops, laying_next, laying_done, concluding-room, called_stages, begun-placed, begun-standing, lay_standing}

-- ---- what holds at the head of the loop, of a call with the memory m₀

-- the number of the forbids' first refusal
abbrev pub refusal : Given → List Forbid → ℕ
refusal i fs = first_of (forbid_tests i.table i.grid fs)

module _ (i : Given) (fs : List Forbid) (m₀ : Memory) where
  abbrev P : ℕ
  P = i.table.count

  -- the stage after the beginning
  abbrev pub begun_stage : Stage
  begun_stage = beginning (refusal i fs) (length fs) i m₀

  -- k forbids are laid, and the call stands at the memory m: the others lead from there where all lead, and the memory is as the next call asks
  pub record Going (k : ℕ) (m : Memory) : Type 0 where
    pub rest : lay_all i (drop k fs) (standing (state_in P m)) ≡ lay_all i fs begun_stage
    pub room : room_of m ≡ room_of m₀
    pub placed : Placed P (cells i.grid) fs
    pub standing : Standing i m

  -- it begins
  pub at_first : (m : Memory) → room_of m ≡ room_of m₀ → begun_as P (Ok tt) m ≡ begun_stage → Going 0 m
  unfolding begun_as
  at_first m e h = record {
    rest = ap (lay_all i fs) h;
    room = e;
    placed = begun-placed i (length fs) fs m₀ (Ok tt) m h number_of-accepted;
    standing = begun-standing i (length fs) fs m₀ (Ok tt) m h number_of-accepted e;
  }

  module _ (k : ℕ) (m : Memory) (g : Going k m) where
    module _ (l : k < length fs) where
      -- the forbid at place k is inside
      inside : ((lent_at fs k).cell < cells i.grid) × ((lent_at fs k).pattern < P)
      inside = placed_at P (cells i.grid) fs k g.placed l

      pub at-record : ((lent_at fs k).cell < length m.domains) × ((lent_at fs k).pattern < P)
      at-record = (subst (λ (n : ℕ). (lent_at fs k).cell < n) (sym g.standing.measured.domains) inside.0, inside.1)

      module _ (b : Bool) (m' : Memory) (h : stage_of P b m' ≡ lay_at i (lent_at fs k) (state_in P m)) where
        next : lay_all i (drop (suc k) fs) (stage_of P b m') ≡ lay_all i fs begun_stage
        next =
            sym (laying_next i (lent_at fs k) (drop (suc k) fs) m b m' h)
            ∙ ap (λ (gs : List Forbid). lay_all i gs (standing (state_in P m))) (sym (drop-cons fs k no_forbid l))
            ∙ g.rest

        -- it is laid
        pub at_next : b ≡ false → room_of m' ≡ room_of m₀ → Going (k + 1) m'
        unfolding stage_of
        at_next z e = record {
          rest =
              ap (λ (j : ℕ). lay_all i (drop j fs) (standing (state_in P m'))) (add-one k)
              ∙ ap (λ (x : Bool). lay_all i (drop (suc k) fs) (stage_of P x m')) (sym z) ∙ next;
          room = e;
          placed = g.placed;
          standing = lay_standing i (lent_at fs k) m g.standing b m' h inside.0 inside.1 (e ∙ sym g.room) z;
        }

        -- it emptied a cell, which ends the laying: the call stands where all forbids lead
        pub at-stop : b ≡ true → contradicted ≡ lay_all i fs begun_stage
        unfolding stage_of
        at-stop z = sym (laying_stops i (drop (suc k) fs) m') ∙ ap (λ (x : Bool). lay_all i (drop (suc k) fs) (stage_of P x m')) (sym z) ∙ next

    -- none is left
    pub at_last : length fs ≤ k → standing (state_in P m) ≡ lay_all i fs begun_stage
    at_last l =
        sym (ap (λ (gs : List Forbid). lay_all i gs (standing (state_in P m))) (drop_of_length-le fs l) ∙ laying_done i (standing (state_in P m))) ∙ g.rest

  -- what is concluded from there is what the call comes to
  pub run_is : (words : List ℕ) (x : Stage) (m : Memory) (o : Outcome) → room_of m ≡ room_of m₀ → x ≡ lay_all i fs begun_stage
      → o ≡ concluding i words x m → o ≡ called i fs words m₀
  run_is words x m o e h c =
      c ∙ ap (λ (x : Stage). concluding i words x m) h ∙ concluding-room i words (lay_all i fs begun_stage) m₀ m e ∙ sym (called_stages (length fs) i fs words m₀)
