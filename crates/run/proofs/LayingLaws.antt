-- Laws of the loop over forbids that are lent as numbers, three for each: the forbids before a place are laid, and the rest laid from there is all of
-- them laid from the start. Follows docs/RULES.md, "Run". Assumes nothing.
use mathlib.Core.Bool.{Bool, true, false}
use mathlib.Core.List.{List, ◌∷◌}
use mathlib.Core.Path.{◌≡◌, refl, sym, ap, subst, ◌∙◌}
use Prim.Native.Nat.{ℕ, suc, ◌/◌, ◌≤◌, ◌<◌}
use native.Mathlib.Omega.{arith}
use lib.ListN.{length}
use Rattle.grid.specs.Grid.{cells}
use Rattle.forbids.specs.declared.Forbid.{Forbid}
use Rattle.course.specs.Run.{Given}
use Rattle.forbids.specs.Forbids.{Placed, forbids_of}
use Rattle.course.specs.Called.{Memory, room_of}
use Rattle.run.specs.Stages.{state_in, stage_of, standing, Standing, lay_at, lay_all}
use Rattle.forbids.proofs.NumberLaws.{forbid_at, forbids_from, forbids_more, forbids_none}
use Rattle.run.proofs.StageLaws.{laying_next, laying_stops, laying_done, lay_standing}

-- the lent slices m, which were m₀, where the forbids before place k are laid
pub record Laying (i : Given) (ns : List ℕ) (m₀ : Memory) (k : ℕ) (m : Memory) : Type 0 where
  pub within : k ≤ length ns / 3
  pub rest : lay_all i (forbids_from ns k) (standing (state_in i.table.count m)) ≡ lay_all i (forbids_of ns) (standing (state_in i.table.count m₀))
  pub placed : Placed i.table.count (cells i.grid) (forbids_from ns k)
  pub standing : Standing i m
  pub room : room_of m ≡ room_of m₀

pub laying_start : (i : Given) (ns : List ℕ) (m : Memory) → Standing i m → Placed i.table.count (cells i.grid) (forbids_of ns) → Laying i ns m 0 m
laying_start i ns m S placed = record { within = omega arith; rest = refl; placed = placed; standing = S; room = refl }

module _ {i : Given} {ns : List ℕ} {m₀ : Memory} {k : ℕ} {m : Memory} (L : Laying i ns m₀ k m) where
  -- all are laid
  abbrev Done : Bool → Memory → Type 0
  Done b m' = stage_of i.table.count b m' ≡ lay_all i (forbids_of ns) (standing (state_in i.table.count m₀))

  module _ (h : k < length ns / 3) where
    -- the forbid at the place is of the grid, and so are those after it
    next_placed : Placed i.table.count (cells i.grid) (forbid_at ns k ∷ forbids_from ns (suc k))
    next_placed = subst (λ (fs : List Forbid). Placed i.table.count (cells i.grid) fs) (forbids_more ns k h) L.placed

    -- what the laying of one takes
    pub laying_ready : Standing i m × ((forbid_at ns k).cell < length m.domains) × ((forbid_at ns k).pattern < i.table.count)
    laying_ready = (L.standing, omega (arith, next_placed.0, L.standing.measured.domains), next_placed.1)

    module _ (b : Bool) (m' : Memory) (e : stage_of i.table.count b m' ≡ lay_at i (forbid_at ns k) (state_in i.table.count m)) where
      next : lay_all i (forbids_from ns (suc k)) (stage_of i.table.count b m') ≡ lay_all i (forbids_of ns) (standing (state_in i.table.count m₀))
      next =
          sym (laying_next i (forbid_at ns k) (forbids_from ns (suc k)) m b m' e)
          ∙ ap (λ (fs : List Forbid). lay_all i fs (standing (state_in i.table.count m))) (sym (forbids_more ns k h)) ∙ L.rest

      -- it emptied a cell, which ends the run
      pub laying_over : b ≡ true → Done true m'
      laying_over z =
          sym (laying_stops i (forbids_from ns (suc k)) m')
          ∙ ap (λ (x : Bool). lay_all i (forbids_from ns (suc k)) (stage_of i.table.count x m')) (sym z) ∙ next

      -- or it is laid, and the run stands
      pub laying_again : b ≡ false → room_of m' ≡ room_of m → Laying i ns m₀ (suc k) m'
      unfolding stage_of
      laying_again z same =
          record {
            within = omega arith;
            rest = ap (λ (x : Bool). lay_all i (forbids_from ns (suc k)) (stage_of i.table.count x m')) (sym z) ∙ next;
            placed = next_placed.2;
            standing = lay_standing i (forbid_at ns k) m L.standing b m' e next_placed.0 next_placed.1 same z;
            room = same ∙ L.room;
          }

  -- none is left
  pub laying_end : length ns / 3 ≤ k → Done false m
  unfolding stage_of
  laying_end h =
      sym (ap (λ (fs : List Forbid). lay_all i fs (standing (state_in i.table.count m))) (forbids_none ns k h) ∙ laying_done i (standing (state_in i.table.count m))) ∙ L.rest
