-- More words: they never restore a pattern nor alter an end other than Paused, and with as many words as cells no run is Paused.
-- A contradiction counts as every cell empty. Follows docs/RULES.md, "Run". Assumes nothing.
use mathlib.Core.Bool.{Bool, true, false, cond}
use mathlib.Core.List.{List, ◌++◌}
use Rattle.std.specs.Prelude.{Option, None, Some}
use mathlib.Core.Path.{◌≡◌, refl, sym, ap, ◌∙◌, subst}
use Prim.Native.Nat.{ℕ, zero, suc, ◌+◌, ◌≤◌, ◌<◌}
use native.Mathlib.Decide.{ℕ_discrete}
use native.Mathlib.Omega.{arith}
use lib.ListN.{length, get_or, replicate}
use Rattle.adjacency.specs.Weights.{weight_sum}
use Rattle.grid.specs.Grid.{cells}
use Rattle.consistency.specs.Domains.{Sub}
use Rattle.consistency.specs.Worklist.{State}
use Rattle.notes.specs.Beside.{Beside}
use Rattle.forbids.specs.declared.Forbid.{Forbid}
use Rattle.choice.specs.declared.inner.Sight.{Sight}
use Rattle.choice.specs.Choice.{Draw, draw}
use Rattle.course.specs.Run.{Given, sighted, notes_of, Ended, ended, Turn, drawn, seen, turn, collapse, run_of}
use Rattle.course.specs.Course.{Lawful, Reached, forbade, chose, Final}
use Rattle.consistency.proofs.DomainLaws.{possible_none}
use Rattle.choice.proofs.DrawLaws.{draw-longer}
use Rattle.course.proofs.TurnLaws.{Over, counts-open, turn-over, turn_on}
use Rattle.course.proofs.StateLaws.{reached-stands}
use Rattle.course.proofs.OpenLaws.{open-some}
use Rattle.course.proofs.CourseLaws.{chosen-sub, reached-counted, run_final, reached-run, final_collapse}
use Rattle.course.proofs.EndLaws.{end_whole, end-domains, paused-means}

-- ---- a turn

-- a turn that does not pause
abbrev Unpaused : Turn → Type 0
Unpaused (Turn.over e) = e.end ≡ 2 → ⊥
Unpaused (Turn.on used s) = Unit {0}

module _ (i : Given) (words more : List ℕ) (used : ℕ) (s : State Beside) where
  seen-longer : (o : Option Sight) (x : Turn) → seen i words used s o ≡ x → Unpaused x → seen i (words ++ more) used s o ≡ x
  unfolding seen drawn
  seen-longer None x q n = q
  seen-longer (Some v) x q n = go (draw words used sum) refl q
    where
      sum : ℕ
      sum = weight_sum i.weights (get_or s.domains v.cell 0)

      go : (o : Option Draw) → draw words used sum ≡ o → drawn i used s v.cell o ≡ x → drawn i used s v.cell (draw (words ++ more) used sum) ≡ x
      go None z q = absurd (subst Unpaused (sym q) n refl)
      go (Some d) z q = ap (drawn i used s v.cell) (draw-longer words used sum d z more) ∙ q

  -- a turn that does not pause is the same with more words
  turn-longer : (x : Turn) → turn i words used s ≡ x → Unpaused x → turn i (words ++ more) used s ≡ x
  unfolding turn
  turn-longer x q n = go s.empty q
    where
      empty : Turn
      empty = Turn.over (ended 3 used (replicate (length s.domains) 0))

      go : (b : Bool) → cond b empty (seen i words used s (sighted i s)) ≡ x → cond b empty (seen i (words ++ more) used s (sighted i s)) ≡ x
      go true q = q
      go false q = seen-longer (sighted i s) x q n

-- ---- what is reached

module _ (i : Given) (fs : List Forbid) (words more : List ℕ) where
  reached-longer : {k used : ℕ} {s : State Beside} → Reached i fs words k used s → Reached i fs (words ++ more) k used s
  reached-longer forbade = forbade
  reached-longer (chose {used = used} {more = m} {s = s} {s' = s'} r e) = chose (reached-longer r) (turn-longer i words more used s (Turn.on m s') e tt)

  final_longer : {e : Ended} → (e.end ≡ 2 → ⊥) → Final i fs words e → Final i fs (words ++ more) e
  final_longer {e} n F =
      record {
        choices = F.choices;
        state = F.state;
        reached = reached-longer F.reached;
        over = turn-longer i words more e.used F.state (Turn.over e) F.over n;
      }

-- ---- no pattern is restored

module _ (i : Given) (fs : List Forbid) (L : Lawful i fs) (words : List ℕ) (D : List ℕ) where
  over_below : (used : ℕ) (s : State Beside) {e : Ended} → Over i words used s e → (s.empty ≡ false → Sub s.domains D) → Sub e.domains D
  over_below used s o below = rw o.written (go s.empty refl)
    where
      go : (b : Bool) → s.empty ≡ b → Sub (cond b (replicate (length s.domains) 0) s.domains) D
      go true h = λ c p k. absurd (omega (arith, possible_none (length s.domains) c p))
      go false h = below h

  -- from a state that is reached the run ends with a subset
  collapse-below : (fuel k used : ℕ) (s : State Beside) → Reached i fs words k used s → cells i.grid < fuel + k → (s.empty ≡ false → Sub s.domains D)
      → Sub (collapse i words fuel used s).domains D
  unfolding collapse
  collapse-below zero k used s r h below = absurd (omega (arith, (reached-counted i fs L words r).few))
  collapse-below (suc fuel) k used s r h below =
      go (turn i words used s) refl (λ m s' q. collapse-below fuel (suc k) m s' (chose r q) (omega arith) (onward m s' q))
    where
      onward : (m : ℕ) (s' : State Beside) → turn i words used s ≡ Turn.on m s' → s'.empty ≡ false → Sub s'.domains D
      onward m s' q e c p z =
          let chosen = turn_on i words used s q in
          below chosen.whole c p (chosen-sub i fs L words used s (reached-stands i fs L r) m s' chosen e c p z)

      go : (x : Turn) → turn i words used s ≡ x → ((m : ℕ) (s' : State Beside) → turn i words used s ≡ Turn.on m s' → Sub (collapse i words fuel m s').domains D)
          → Sub (elim x as (λ _. Ended) [ Turn.over e ↦ e | Turn.on m s' ↦ collapse i words fuel m s' ]).domains D
      go (Turn.over e) q f = over_below used s (turn-over i words used s q) below
      go (Turn.on m s') q f = f m s' q

-- ---- the theorems

module _ (i : Given) (fs : List Forbid) (L : Lawful i fs) (words : List ℕ) where
  -- an end other than Paused stays, with the words used and the domains
  appended_same : (more : List ℕ) → ((run_of i fs words).end ≡ 2 → ⊥) → run_of i fs (words ++ more) ≡ run_of i fs words
  appended_same more n = unfold run_of in (final_collapse i fs L (words ++ more) (final_longer i fs words more n (run_final i fs L words)) (cells i.grid + 1) (omega arith))

  -- the domains are a subset, or all zero
  appended-sub : (more : List ℕ) → Sub (run_of i fs (words ++ more)).domains (run_of i fs words).domains
  appended-sub more = go (ℕ_discrete (run_of i fs words).end 2)
    where
      F : Final i fs words (run_of i fs words)
      F = run_final i fs L words

      -- a run that pauses is at a state that the longer run reaches too
      onward : (run_of i fs words).end ≡ 2 → Sub (run_of i fs (words ++ more)).domains (run_of i fs words).domains
      onward z =
          let r = reached-longer i fs words more F.reached in
          rw (reached-run i fs L (words ++ more) r)
          (collapse-below i fs L (words ++ more) (run_of i fs words).domains _ F.choices _ F.state r (omega arith)
          (λ _. rw (end-domains i fs L words F (λ y. omega arith)) (λ c p h. h)))

      go : Dec ((run_of i fs words).end ≡ 2) → Sub (run_of i fs (words ++ more)).domains (run_of i fs words).domains
      go (no n) = rw (appended_same more n) (λ c p h. h)
      go (yes z) = onward z

  -- appended words never alter an end other than Paused, nor restore a pattern
  pub appended-words : (more : List ℕ)
      → (((run_of i fs words).end ≡ 2 → ⊥) → run_of i fs (words ++ more) ≡ run_of i fs words) × Sub (run_of i fs (words ++ more)).domains (run_of i fs words).domains
  appended-words more = (appended_same more, appended-sub more)

  -- with as many words as cells no run is Paused
  pub enough-words : cells i.grid ≤ length words → (run_of i fs words).end ≡ 2 → ⊥
  unfolding notes_of
  enough-words h z =
      let F = run_final i fs L words in
      let ((c, inside, counting), all) = paused-means i fs L words F z in
      let C = reached-counted i fs L words F.reached in
      let whole = end_whole i fs L words F (λ y. omega arith) in
      let open-there = open-some (cells i.grid) F.state.domains c inside (counts-open (notes_of i F.state) c counting) in
      omega (arith, C.each, C.rest whole, open-there)
