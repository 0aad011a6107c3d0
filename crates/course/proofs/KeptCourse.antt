-- What is kept beside the domains, along a course: what holds at the start and stays so at every removal holds of every state that a run reaches.
-- Follows docs/RULES.md, "Run". Assumes nothing.
use mathlib.Core.Bool.{Bool, true, false, cond}
use mathlib.Core.List.{List, [], ◌∷◌}
use mathlib.Core.Path.{◌≡◌}
use Prim.Native.Nat.{ℕ}
use Rattle.grid.specs.Grid.{cells}
use Rattle.consistency.specs.Worklist.{Removal, State, forbids}
use Rattle.consistency.specs.Start.{others}
use Rattle.notes.specs.Beside.{Beside, kept, unmarked, lessened}
use Rattle.forbids.specs.declared.Forbid.{Forbid}
use Rattle.course.specs.Run.{Given, begun, reduced_by, asked, laid, laid_all, Turn, turn}
use Rattle.course.specs.Course.{Reached, forbade, chose}
use Rattle.course.proofs.TurnLaws.{turn_on}
use Rattle.consistency.proofs.KeptLaws.{Stays, Holds, holds-forbids, holds-propagated}

-- it stays so whatever a run does beside the domains
pub record Lasts (i : Given) (A : List ℕ → Beside → Type 0) : Type 0 where
  pub asked : Stays (lessened i.weights) A
  pub following : Stays (kept i.weights i.noise (cells i.grid)) A
  pub renewed : (D : List ℕ) (x : Beside) → A D x → A D (unmarked (cells i.grid) x)

module _ (i : Given) (A : List ℕ → Beside → Type 0) (lasts : Lasts i A) where
  -- removals that are asked for, propagated
  pub holds-reduced : (us : List Removal) (s : State Beside) → Holds A s → Holds A (reduced_by i us s)
  unfolding reduced_by
  holds-reduced us s a =
      let r = forbids i.table.count (lessened i.weights) us s in
      holds-propagated i.table i.grid (kept i.weights i.noise (cells i.grid)) A lasts.following _
      (lasts.renewed r.domains r.beside (holds-forbids i.table.count (lessened i.weights) A lasts.asked us s a))

  holds-laid : (fs : List Forbid) (s : State Beside) → Holds A s → Holds A (laid_all i fs s)
  unfolding laid_all laid
  holds-laid [] s a = a
  holds-laid (f ∷ fs) s a = go s.empty (holds-laid fs (laid i f s) (holds-reduced (asked i.table.count f) s a))
    where
      go : (b : Bool) → Holds A (laid_all i fs (laid i f s)) → Holds A (cond b s (laid_all i fs (laid i f s)))
      go true k = a
      go false k = k

  holds-chose : (words : List ℕ) (used more : ℕ) (s s' : State Beside) → turn i words used s ≡ Turn.on more s' → Holds A s → Holds A s'
  holds-chose words used more s s' e a =
      let c = turn_on i words used s e in
      rw c.made (holds-reduced (others i.table.count c.cell c.pattern) s a)

  -- every state that a run reaches
  pub holds-reached : {fs : List Forbid} {words : List ℕ} {k used : ℕ} {s : State Beside} → Holds A (begun i) → Reached i fs words k used s → Holds A s
  holds-reached {fs} a forbade = holds-laid fs (begun i) a
  holds-reached {words = words} a (chose {used = used} {more = more} {s = s} {s' = s'} r e) = holds-chose words used more s s' e (holds-reached a r)
