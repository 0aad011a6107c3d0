-- Laws of the stages of a call on lent slices: what the slices must be while the run goes on, and what each stage of the code comes to.
-- Follows docs/RULES.md, "Run" and "Refusals". Assumes nothing.
use mathlib.Core.Bool.{Bool, true, false, cond}
use mathlib.Core.List.{List, [], append-nil}
use mathlib.Core.Path.{◌≡◌, refl, sym, ap, subst, ◌∙◌}
use Prim.Native.Nat.{ℕ, zero, suc, ◌+◌, ◌*◌, ◌<◌}
use native.Mathlib.Nat.{mul-le-mul}
use native.Mathlib.Omega.{arith}
use lib.Dec.{eqb}
use lib.ListN.{length, take, drop, replicate}
use borrow.Author.Tests.{eq-eqb, ne_eqb}
use Rattle.order.specs.Numbers.{Numbers}
use Rattle.std.specs.Prelude.{Ok, Err}
use Rattle.refusals.specs.declared.Refusal.{Refusal}
use Rattle.refusals.specs.Refusals.{first_of, answer, number, number_of}
use Rattle.grid.specs.Grid.{cells}
use Rattle.notes.specs.Blocks.{blocks}
use Rattle.consistency.specs.Worklist.{State, state}
use Rattle.propagation.specs.declared.inner.propagator.Pile.{Pile}
use Rattle.notes.specs.Beside.{Beside, beside_in}
use Rattle.propagation.specs.Lent.{pending_of, state_of, Lent, Ground}
use Rattle.notes.specs.Sizes.{Roomy, Alongside}
use Rattle.forbids.specs.declared.Forbid.{Forbid}
use Rattle.collapse.specs.declared.Ending.TheVariants.{Contradiction}
use Rattle.collapse.specs.declared.Stop.{Stop}
use Rattle.collapse.specs.Endings.{end_number}
use Rattle.course.specs.Run.{Given, begun, asked, laid, Ended, collapse}
use Rattle.course.specs.Course.{full_less, wanted}
use Rattle.course.specs.Called.{Memory, memory, Room, room, room_of, base_tests, tests_of, outcome, cleared, finished}
use Rattle.collapse.specs.Steps.{Opened, idle, ended_as}
use Rattle.forbids.specs.Forbids.{forbid_tests}
use Rattle.run.specs.Answers.{answer_told}
use Rattle.run.specs.Stages.{contradicted, standing, state_in, stage_of, refused_at, Standing, begin_at, first_bad, beginning, lay_at, concluding}
use Rattle.refusals.proofs.RefusalLaws.{number-positive}
use Rattle.consistency.proofs.Settled.{Settled}
use Rattle.propagation.proofs.LentLaws.{safe-beside}
use Rattle.course.proofs.StateLaws.{asked-inside, reduced_by-settled, forbade-settled}
use Rattle.collapse.proofs.TurnsLaws.{pile_idle, laid-numbers}
use Rattle.collapse.proofs.WatchLaws.{laid-at}
use Rattle.course.proofs.CalledLaws.{Granted, called-granted}

-- ---- refused, or begun

-- what the refusals before the forbids' leave
pub base-granted : (lent : ℕ) (i : Given) (m : Memory) → first_of (base_tests i lent (room_of m)) ≡ 0 → Granted lent i [] m
unfolding tests_of forbid_tests
base-granted lent i m e = called-granted lent i [] m (ap first_of (append-nil (base_tests i lent (room_of m))) ∙ e)

-- room for the start
pub granted-opened : {lent : ℕ} {i : Given} {m : Memory} → Granted lent i [] m
    → Opened i.table.count (cells i.grid) m.domains m.counts m.floats m.marks
granted-opened {m = m} G = record { some = omega (arith, mul-le-mul G.sized.tall G.sized.wide); pending = m.pending; measured = G.memory }

module _ (bad lent : ℕ) (i : Given) (m : Memory) where
  -- the number of the first refusal before the forbids'
  abbrev base : ℕ
  base = first_of (base_tests i lent (room_of m))

  -- a refusal leaves all as it was
  refused-at : (k : ℕ) → (k ≡ 0 → ⊥) → refused_at k m ≡ begin_at k i m
  unfolding begin_at
  refused-at zero z = absurd (z refl)
  refused-at (suc k) z = refl

  -- one before the forbids' is the first
  pub begin_refused : (r : Refusal) → number_of (Err r) ≡ base → refused_at (number r) m ≡ beginning bad lent i m
  unfolding beginning first_bad number_of
  begin_refused r e =
      refused-at (number r) (number-positive r)
      ∙ ap (λ (k : ℕ). begin_at k i m) (e ∙ sym (ap (λ (b : Bool). cond b bad base) (ne_eqb base 0 (λ y. number-positive r (e ∙ y)))))

  module _ (z : base ≡ 0) where
    -- nothing before the forbids is refused
    first-bad : first_bad bad lent i m ≡ bad
    unfolding first_bad
    first-bad = ap (λ (b : Bool). cond b bad base) (eq-eqb base 0 z)

    -- otherwise the forbids', whatever its number
    pub begin_bad : (bad ≡ 0 → ⊥) → refused_at bad m ≡ beginning bad lent i m
    unfolding beginning
    begin_bad y = refused-at bad y ∙ ap (λ (k : ℕ). begin_at k i m) (sym first-bad)

    -- without any the run begins
    pub begin_standing : bad ≡ 0 → (m' : Memory) → state m'.counts m'.domains [] false (beside_in (length m'.domains) m'.floats m'.marks) ≡ begun i
        → standing (state_in i.table.count m') ≡ beginning bad lent i m
    unfolding beginning begin_at pending_of
    begin_standing y m' s = ap standing s ∙ ap (λ (k : ℕ). begin_at k i m) (sym (first-bad ∙ y))

-- ---- while the run goes on

module _ {i : Given} {m : Memory} (S : Standing i m) where
  -- the state is what propagation leaves of full domains less all that the forbids ask to go
  standing-settled : Settled i.table i.grid (full_less i (wanted i.table.count S.laid.forbids)) (state_in i.table.count m)
  standing-settled =
      subst (λ (s : State Beside). Settled i.table i.grid (full_less i (wanted i.table.count S.laid.forbids)) s) (sym S.laid.is)
      (forbade-settled i S.laid.forbids S.laid.lawful)

  -- the slices are as every step needs them
  pub standing-lent : Lent i.table.count (length m.domains) m.domains m.counts m.pending idle
  standing-lent =
      subst (λ (n : ℕ). Lent i.table.count n m.domains m.counts m.pending idle) (sym S.measured.domains)
      (record {
        some = S.laid.lawful.accepted.some;
        patterns = S.laid.lawful.accepted.few;
        cells = S.sized.few;
        safe = safe-beside (state_in i.table.count m) (tt {0}) standing-settled.safe;
        tall = S.measured.pending;
      })

  pub standing_ground : Ground i.table i.grid (length m.domains)
  standing_ground = record { accepted = S.laid.lawful.accepted; sized = S.sized; all = S.measured.domains }

  pub standing-roomy : Roomy (length m.domains) i.noise m.floats m.marks
  standing-roomy =
      let M = S.measured in
      record { heard = S.heard ∙ sym M.domains; valued = omega (arith, M.domains, M.floats); marked = rw M.domains (omega (arith, M.marks)) }

  pub standing-marked : length m.marks ≡ 2 * length m.domains + blocks (length m.domains)
  standing-marked = S.measured.marks ∙ ap (λ (n : ℕ). 2 * n + blocks n) (sym S.measured.domains)

  -- no noted entropy is a NaN
  pub standing-numbers : Numbers (drop (length m.domains) m.floats)
  standing-numbers = laid-numbers (length m.domains) S.laid

  -- other marks of blocks change nothing
  pub standing-marks : (M : List ℕ) → length M ≡ length m.marks → take (2 * length m.domains) M ≡ take (2 * length m.domains) m.marks
      → Standing i (memory m.domains m.counts m.pending m.floats M)
  standing-marks M k e =
      record {
        sized = S.sized;
        heard = S.heard;
        measured =
            record {
              domains = S.measured.domains;
              counts = S.measured.counts;
              pending = S.measured.pending;
              floats = S.measured.floats;
              marks = k ∙ S.measured.marks;
            };
        laid = laid-at i.table.count m.domains m.counts m.pending m.floats m.marks M S.laid e;
      }

  pub standing-alongside : Alongside i.table.count (length m.domains) i.weights i.noise m.floats m.marks
  standing-alongside = record { weighed = S.laid.lawful.weighed; marked = standing-roomy.marked; roomy = λ _ _. standing-roomy }

  -- ---- a forbid is laid

  module _ (f : Forbid) (hc : f.cell < length m.domains) (hp : f.pattern < i.table.count) (m' : Memory) (pile : Pile)
      (e : state_of i.table.count m'.domains m'.counts m'.pending pile (beside_in (length m'.domains) m'.floats m'.marks) ≡ laid i f (state_in i.table.count m)) where
    -- where the forbid leads, which the slices m' and the pile stand for
    abbrev after : State Beside
    after = laid i f (state_in i.table.count m)

    after-empty : {b : Bool} → pile.empty ≡ b → after.empty ≡ b
    after-empty h = sym (ap (λ (s : State Beside). s.empty) e) ∙ h

    -- where no cell was emptied nothing is pending
    nothing-pending : pile.empty ≡ false → after.pending ≡ []
    unfolding laid
    nothing-pending h =
        (reduced_by-settled i S.laid.lawful.accepted (asked i.table.count f) (state_in i.table.count m)
        (asked-inside i.table.count (cells i.grid) f (omega (arith, S.measured.domains)) hp) (standing-settled.ready refl)).ended (after-empty h)

    -- so the slices stand for it alone, where none was emptied
    pub lay-stage : stage_of i.table.count pile.empty m' ≡ lay_at i f (state_in i.table.count m)
    unfolding stage_of lay_at
    lay-stage = go pile.empty refl
      where
        go : (b : Bool) → pile.empty ≡ b
            → cond b contradicted (standing (state_in i.table.count m')) ≡ cond after.empty contradicted (standing after)
        go true h = sym (ap (λ (b : Bool). cond b contradicted (standing after)) (after-empty h))
        go false h =
            ap standing
            (subst (λ (p : Pile). state_of i.table.count m'.domains m'.counts m'.pending p (beside_in (length m'.domains) m'.floats m'.marks) ≡ after)
            (pile_idle i.table.count m'.pending pile h (ap (λ (s : State Beside). s.pending) e ∙ nothing-pending h)) e)
            ∙ sym (ap (λ (b : Bool). cond b contradicted (standing after)) (after-empty h))

  -- ---- the turns; they stop over the domains D

  module _ (words : List ℕ) (stop : Stop) (D : List ℕ) (e : ended_as stop D ≡ collapse i words (cells i.grid + 1) 0 (state_in i.table.count m)) where
    -- the answer tells their end, and the work memory is cleared
    pub turns_concluded : {m' : Memory} {b : Bool} {r : Room} → b ≡ eqb (end_number stop.end) 3
        → m' ≡ cleared (cond b (replicate (length D) 0) D) r → r ≡ room_of m
        → outcome (answer_told (Ok stop)) m' ≡ concluding i words (standing (state_in i.table.count m)) m
    unfolding concluding finished ended_as answer_told
    turns_concluded {m'} {b} {r} t c q =
        let written = cond (eqb (end_number stop.end) 3) (replicate (length D) 0) D in
        ap (outcome (answer (record { end = end_number stop.end; used = stop.used })))
        (c ∙ ap (λ (x : Bool). cleared (cond x (replicate (length D) 0) D) r) t ∙ ap (cleared written) q)
        ∙ ap (λ (x : Ended). finished x m) e

-- ---- the conclusion

-- slices as long as before
pub room_same : {R : Type 0} (m : Memory) {domains counts pending floats marks : ℕ}
    → (domains ≡ length m.domains) × ((counts ≡ length m.counts) × ((pending ≡ length m.pending) × ((floats ≡ length m.floats) × ((marks ≡ length m.marks) × R))))
    → room domains counts pending floats marks ≡ room_of m
room_same m (a, (b, (c, (d, (e, _))))) = λ j. room (a j) (b j) (c j) (d j) (e j)

-- a forbid emptied a cell: all is zero
pub conclude-contradicted : (i : Given) (words : List ℕ) (m : Memory) {m' : Memory} → m' ≡ cleared (replicate (length m.domains) 0) (room_of m)
    → outcome (answer_told (Ok (record { end = Contradiction; used = 0 }))) m' ≡ concluding i words contradicted m
unfolding concluding finished answer_told
conclude-contradicted i words m e = ap (outcome (answer (record { end = 3; used = 0 }))) e
