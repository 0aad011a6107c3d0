-- Laws of the turns of a run on lent slices: each leaves the slices as the next must find them, or ends the run as it is to end.
-- Follows docs/RULES.md, "Run".
-- Assumes nothing.
use mathlib.Core.Bool.{Bool, true, false, cond, true≢false}
use mathlib.Core.List.{List, []}
use mathlib.Core.Path.{◌≡◌, refl, sym, ap, subst, ◌∙◌}
use Prim.Native.Nat.{ℕ, suc, ◌+◌, ◌-◌, ◌*◌, ◌<◌}
use native.Mathlib.Omega.{arith}
use lib.ListN.{length, drop, replicate}
use borrow.Author.Tests.{ne_eqb}
use Rattle.order.specs.Numbers.{Numbers}
use Rattle.grid.specs.Grid.{cells}
use Rattle.notes.specs.Blocks.{blocks}
use Rattle.consistency.specs.Worklist.{State}
use Rattle.consistency.specs.Safe.{Safe}
use Rattle.propagation.specs.declared.inner.propagator.Pile.{Pile}
use Rattle.notes.specs.Beside.{Beside, beside_in}
use Rattle.propagation.specs.Lent.{pending_of, state_of, Lent}
use Rattle.notes.specs.Sizes.{Roomy}
use Rattle.std.specs.declared.ops.ControlFlow.{ControlFlow}
use Rattle.std.specs.declared.ops.ControlFlow.TheVariants.{Continue, Break}
use Rattle.collapse.specs.declared.Ending.{Ending}
use Rattle.collapse.specs.declared.Ending.TheVariants.{Contradiction}
use Rattle.collapse.specs.declared.Stop.{Stop}
use Rattle.collapse.specs.Endings.{end_number}
use Rattle.course.specs.Run.{Given, Ended, ended, Turn, turn, collapse, run_of}
use Rattle.course.specs.Course.{Reached, forbade, chose}
use Rattle.collapse.specs.Steps.{idle, turn_of, stop_of, Found, Sightly, Laid, ended_as}
use Rattle.order.proofs.ListLaws.{numbers-drop}
use Rattle.propagation.proofs.LentLaws.{pending-length, lent-after, Memory, Same}
use Rattle.course.proofs.TurnLaws.{Says, turn-over, turn_on, collapse-over}
use Rattle.course.proofs.StateLaws.{reached-stands}
use Rattle.course.proofs.SoundLaws.{reached-numbers}
use Rattle.course.proofs.OpenLaws.{open_cells}
use Rattle.course.proofs.CourseLaws.{chosen-fewer, reached-counted, reached-run}

-- ---- one turn, and where it leaves the turns

-- what a turn comes to, and where that leaves the turns
abbrev pub Step : Type 0
Step = ControlFlow Ending Pile

abbrev pub Left : Type 0
Left = ControlFlow Stop ℕ

-- where a choice that empties a cell leaves them
abbrev emptied_at : ℕ → Left
emptied_at used = Break (record { end = Contradiction; used = used + 1 })

-- where a turn that is over leaves them, and one that goes on, by whether a cell was emptied
pub stop-over : {step : Step} {end : Ending} (used : ℕ) → step ≡ Break end → Break (record { end = end; used = used }) ≡ stop_of step used
stop-over used q = sym (ap (λ (x : Step). stop_of x used) q)

stop-on : {step : Step} {pile : Pile} {b : Bool} (used : ℕ) → step ≡ Continue pile → pile.empty ≡ b
    → cond b (emptied_at used) (Continue (used + 1)) ≡ stop_of step used
stop-on {step} {pile} used q e =
    sym (ap (λ (x : Step). stop_of x used) q ∙ ap (λ (x : Bool). cond x (emptied_at used) (Continue (used + 1))) e)

pub stop-emptied : {step : Step} {pile : Pile} (used : ℕ) → step ≡ Continue pile → pile.empty ≡ true → emptied_at used ≡ stop_of step used
stop-emptied used q e = stop-on used q e

pub stop-going : {step : Step} {pile : Pile} (used : ℕ) → step ≡ Continue pile → pile.empty ≡ false → Continue (used + 1) ≡ stop_of step used
stop-going used q e = stop-on used q e

-- what is told of a stop, or of the words used, is told once
stop_in : Stop → Left → Stop
stop_in s (Break t) = t
stop_in s (Continue n) = s

used_in : ℕ → Left → ℕ
used_in n (Break s) = n
used_in n (Continue m) = m

-- a turn that goes on used a word, so one more can be counted
pub word-left : (i : Given) (words : List ℕ) (used : ℕ) (s : State Beside) (state : Pile → State Beside) {step : Step} {pile : Pile} → step ≡ Continue pile
    → turn_of step used state ≡ turn i words used s → used < length words
word-left i words used s state q e = (turn_on i words used s (sym e ∙ ap (λ (x : Step). turn_of x used state) q)).left

-- a cell is empty: the run is over as a contradiction
pub turn-empty : (i : Given) (words : List ℕ) (used : ℕ) (s : State Beside) → s.empty ≡ true → turn i words used s ≡ Turn.over (ended 3 used (replicate (length s.domains) 0))
unfolding turn
turn-empty i words used s e = rw e

-- where no cell is empty no turn ends as a contradiction
over-whole : (i : Given) (words : List ℕ) (used : ℕ) (s : State Beside) {e : Ended} → s.empty ≡ false → turn i words used s ≡ Turn.over e → e.end ≡ 3 → ⊥
over-whole i words used s whole q f = true≢false (sym (subst (Says i words used s) f (turn-over i words used s q).says) ∙ whole)

-- a first turn that is over ends the run
pub first-over : (i : Given) (words : List ℕ) (s : State Beside) (end : Ending) → s.empty ≡ false → Turn.over (ended (end_number end) 0 s.domains) ≡ turn i words 0 s
    → ended_as (record { end = end; used = 0 }) s.domains ≡ collapse i words (cells i.grid + 1) 0 s
unfolding ended_as
first-over i words s end whole q =
    rw (ne_eqb (end_number end) 3 (over-whole i words 0 s whole (sym q)))
    (sym (ap (λ (fuel : ℕ). collapse i words fuel 0 s) one ∙ collapse-over i words 0 s (cells i.grid) (sym q)))
  where
    one : cells i.grid + 1 ≡ suc (cells i.grid)
    one = omega arith

-- ---- between two turns

-- a pile with nothing pending, where no cell was emptied
pub pile_idle : (P : ℕ) (Q : List ℕ) (pile : Pile) → pile.empty ≡ false → pending_of P Q pile.top ≡ [] → pile ≡ idle
pile_idle P Q pile e k = λ j. record { top = low j; empty = e j }
  where
    low : pile.top ≡ 0
    low = sym (pending-length P Q pile.top) ∙ ap length k

-- the state that the lent slices and a pile stand for
abbrev pub stands_in : ℕ → Memory → Pile → State Beside
stands_in P m pile = state_of P m.domains m.counts m.pending pile (beside_in (length m.domains) m.floats m.marks)

-- the lent slices m, which were m₀, where the turns go on with so many words used: at a state that the run reaches; what the marks of blocks say is so; and
-- as long as they were
pub record Turns (i : Given) (words : List ℕ) (w : ℕ) (m₀ m : Memory) (used : ℕ) : Type 0 where
  pub laid : Laid i (stands_in i.table.count m₀ idle)
  pub going : (k : ℕ) × Reached i laid.forbids words k used (stands_in i.table.count m idle)
  pub found : Found i.noise w m.domains m.floats m.marks
  pub kept : Same m₀ m (Unit {0})

-- from where forbids lead, the turns are the whole run
pub laid-run : {i : Given} {s : State Beside} (words : List ℕ) (L : Laid i s) → collapse i words (cells i.grid + 1) 0 s ≡ run_of i L.forbids words
unfolding run_of
laid-run {i} words L = ap (λ (s : State Beside). collapse i words (cells i.grid + 1) 0 s) L.is

laid-reached : {i : Given} {s : State Beside} (words : List ℕ) (L : Laid i s) → Reached i L.forbids words 0 0 s
laid-reached {i} words L = subst (λ (s : State Beside). Reached i L.forbids words 0 0 s) (sym L.is) forbade

-- no noted entropy is a NaN there
pub laid-numbers : {i : Given} {s : State Beside} (n : ℕ) → Laid i s → Numbers (drop n s.beside.floats)
laid-numbers {i} {s} n L = numbers-drop s.beside.floats n (reached-numbers i L.forbids L.lawful (laid-reached [] L)).numbers

-- the turns start where the forbids lead
pub turns-start : {i : Given} {words : List ℕ} {w : ℕ} {m : Memory} → Laid i (stands_in i.table.count m idle)
    → Found i.noise w m.domains m.floats m.marks → Turns i words w m m 0
turns-start {i} {words} {w} {m} L F =
    record {
      laid = L;
      going = (0, laid-reached words L);
      found = F;
      kept = (refl, (refl, (refl, (refl, (refl, tt)))));
    }

-- as long as they were before the last turn, and so as at entry
same_after : (m₀ m m' : Memory) {R : Type 0} → Same m₀ m (Unit {0}) → Same m m' R → Same m₀ m' (Unit {0})
same_after m₀ m m' (a, (b, (c, (d, (e, _))))) (a', (b', (c', (d', (e', _))))) = (a' ∙ a, (b' ∙ b, (c' ∙ c, (d' ∙ d, (e' ∙ e, tt)))))

module _ {i : Given} {words : List ℕ} {w : ℕ} {m₀ m : Memory} {used : ℕ} (T : Turns i words w m₀ m used) where
  -- what the slices must be for another turn
  pub turns-roomy : {noise : List ℕ} → Roomy (length m₀.domains) noise m₀.floats m₀.marks → Roomy (length m.domains) noise m.floats m.marks
  turns-roomy R =
      let (d, (_, (_, (f, (k, _))))) = T.kept in
      record { heard = R.heard ∙ sym d; valued = omega (arith, R.valued, d, f); marked = omega (arith, R.marked, d, k) }

  pub turns_sightly : length m₀.marks ≡ 2 * length m₀.domains + blocks (length m₀.domains)
      → Sightly i.noise w m.domains m.floats m.marks
  turns_sightly e =
      let (d, (_, (_, (_, (k, _))))) = T.kept in
      record {
        marked = k ∙ e ∙ ap (λ (n : ℕ). 2 * n + blocks n) (sym d);
        numbers = numbers-drop m.floats (length m.domains) (reached-numbers i T.laid.forbids T.laid.lawful T.going.1).numbers;
        found = T.found;
      }

  pub turns-lent : length m₀.domains ≡ cells i.grid → Lent i.table.count (length m₀.domains) m₀.domains m₀.counts m₀.pending idle
      → Lent i.table.count (length m.domains) m.domains m.counts m.pending idle
  turns-lent all L =
      subst (λ (n : ℕ). Lent i.table.count n m.domains m.counts m.pending idle) (sym T.kept.0)
      (lent-after L
      (subst (λ (n : ℕ). Safe i.table.count n (n * i.table.count) (stands_in i.table.count m idle)) (sym all)
      (reached-stands i T.laid.forbids T.laid.lawful T.going.1).settled.safe)
      T.kept.1.1.0)

  -- a turn that is over at a state that is reached ends the run
  run-over : {k n : ℕ} {s : State Beside} {e : Ended} → Reached i T.laid.forbids words k n s → turn i words n s ≡ Turn.over e
      → e ≡ collapse i words (cells i.grid + 1) 0 (stands_in i.table.count m₀ idle)
  run-over {k} {n} {s} r q =
      sym (laid-run words T.laid ∙ reached-run i T.laid.forbids T.laid.lawful words r
      ∙ ap (λ (fuel : ℕ). collapse i words fuel n s) left ∙ collapse-over i words n s (cells i.grid - k) q)
    where
      left : cells i.grid + 1 - k ≡ suc (cells i.grid - k)
      left = omega (arith, (reached-counted i T.laid.forbids T.laid.lawful words r).few)

  -- ---- a turn of the code

  module _ (m' : Memory) where
    -- what a turn comes to, from the slices m to the slices m'
    abbrev Turned : Step → Type 0
    Turned step = turn_of step used (stands_in i.table.count m') ≡ turn i words used (stands_in i.table.count m idle)

    -- the end of a turn is not a contradiction, which a turn leaves to the next
    not_three : (end : Ending) → Turned (Break end) → end_number end ≡ 3 → ⊥
    not_three end q = over-whole i words used (stands_in i.table.count m idle) refl (sym q)

    -- the state after a choice
    reached : (pile : Pile) → Turned (Continue pile) → Reached i T.laid.forbids words (suc T.going.0) (used + 1) (stands_in i.table.count m' pile)
    reached pile q = chose T.going.1 (sym q)

    -- what the stop that is told comes to
    told : {t : Stop} (stop : Stop) → ◌≡◌ {A = Left} (Break stop) (Break t) → ended_as t m'.domains ≡ collapse i words (cells i.grid + 1) 0 (stands_in i.table.count m₀ idle)
        → ended_as stop m'.domains ≡ collapse i words (cells i.grid + 1) 0 (stands_in i.table.count m₀ idle)
    unfolding stop_in
    told stop e f = ap (λ (s : Stop). ended_as s m'.domains) (ap (stop_in stop) e) ∙ f

    -- a turn leaves the turns at the run's end
    over_by : (step : Step) → Turned step → (stop : Stop) → Break stop ≡ stop_of step used
        → ended_as stop m'.domains ≡ collapse i words (cells i.grid + 1) 0 (stands_in i.table.count m₀ idle)
    unfolding ended_as
    over_by (Break end) q stop e =
        told stop e (rw (ne_eqb (end_number end) 3 (not_three end q)) (run-over T.going.1 (sym q)))
    over_by (Continue pile) q stop e = go pile.empty refl e
      where
        go : (b : Bool) → pile.empty ≡ b → Break stop ≡ cond b (emptied_at used) (Continue (used + 1))
            → ended_as stop m'.domains ≡ collapse i words (cells i.grid + 1) 0 (stands_in i.table.count m₀ idle)
        go true h e = told stop e (run-over (reached pile q) (turn-empty i words (used + 1) (stands_in i.table.count m' pile) h))
        go false h e = let z : ◌≡◌ {A = ℕ} 0 1 = cc in absurd (omega arith)

    pub turns-over : (step : Step) → Turned step → {left : Left} → left ≡ stop_of step used → {stop : Stop} → left ≡ Break stop
        → ended_as stop m'.domains ≡ collapse i words (cells i.grid + 1) 0 (stands_in i.table.count m₀ idle)
    turns-over step q e {stop} b = over_by step q stop (sym b ∙ e)

    -- or where they go on, with one more word used and less left to do
    abbrev Goes : ℕ → Type 0
    Goes more = (pile : Pile) × Turned (Continue pile) × (pile.empty ≡ false) × (more ≡ used + 1)

    goes_by : (step : Step) → Turned step → (more : ℕ) → Continue more ≡ stop_of step used → Goes more
    unfolding used_in
    goes_by (Break end) q more e = let z : ◌≡◌ {A = ℕ} 0 1 = cc in absurd (omega arith)
    goes_by (Continue pile) q more e = go pile.empty refl e
      where
        go : (b : Bool) → pile.empty ≡ b → Continue more ≡ cond b (emptied_at used) (Continue (used + 1)) → Goes more
        go true h e = let z : ◌≡◌ {A = ℕ} 0 1 = cc in absurd (omega arith)
        go false h e = (pile, q, h, ap (used_in more) e)

    module _ (step : Step) (q : Turned step) {left : Left} (e : left ≡ stop_of step used) {more : ℕ} (b : left ≡ Continue more) where
      goes : Goes more
      goes = goes_by step q more (sym b ∙ e)

      pub turns-less : open_cells (cells i.grid) m'.domains < open_cells (cells i.grid) m.domains
      turns-less =
          let (pile, turned, whole, _) = goes in
          let s = stands_in i.table.count m idle in
          chosen-fewer i T.laid.forbids T.laid.lawful words used s
          (reached-stands i T.laid.forbids T.laid.lawful T.going.1) (used + 1) (stands_in i.table.count m' pile)
          (turn_on i words used s (sym turned)) whole

      pub turns-again : {R : Type 0} → Same m m' R → Found i.noise w m'.domains m'.floats m'.marks → Turns i words w m₀ m' more
      turns-again same F =
          let (pile, turned, whole, counted) = goes in
          record {
            laid = T.laid;
            going = (
              suc T.going.0,
              rw counted
                  (subst (λ (p : Pile). Reached i T.laid.forbids words (suc T.going.0) (used + 1) (stands_in i.table.count m' p))
                  (pile_idle i.table.count m'.pending pile whole
                  ((reached-stands i T.laid.forbids T.laid.lawful (reached pile turned)).settled.ended whole)) (reached pile turned)),
            );
            found = F;
            kept = same_after m₀ m m' T.kept same;
          }
