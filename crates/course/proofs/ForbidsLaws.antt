-- Forbids one after the other: after a contradiction none counts, and those after others go on from where the others lead.
-- Follows docs/RULES.md, "Run".
use mathlib.Core.Bool.{Bool, true, false, cond}
use mathlib.Core.List.{List, ◌∷◌, ◌++◌, []}
use mathlib.Core.Path.{◌≡◌, refl, sym, ap}
use Rattle.consistency.specs.Worklist.{State}
use Rattle.notes.specs.Beside.{Beside}
use Rattle.forbids.specs.declared.Forbid.{Forbid}
use Rattle.course.specs.Run.{Given, laid, laid_all}

module _ (i : Given) where
  -- after a contradiction no forbid is laid
  laid_all-empty : (fs : List Forbid) (s : State Beside) → s.empty ≡ true → laid_all i fs s ≡ s
  unfolding laid_all
  laid_all-empty [] s e = refl
  laid_all-empty (f ∷ fs) s e = ap (λ (b : Bool). cond b s (laid_all i fs (laid i f s))) e

  -- forbids after others
  pub laid_all-append : (fs gs : List Forbid) (s : State Beside) → laid_all i (fs ++ gs) s ≡ laid_all i gs (laid_all i fs s)
  unfolding laid_all
  laid_all-append [] gs s = refl
  laid_all-append (f ∷ fs) gs s = go s.empty refl (laid_all-append fs gs (laid i f s))
    where
      go : (b : Bool) → s.empty ≡ b → laid_all i (fs ++ gs) (laid i f s) ≡ laid_all i gs (laid_all i fs (laid i f s))
          → cond b s (laid_all i (fs ++ gs) (laid i f s)) ≡ laid_all i gs (cond b s (laid_all i fs (laid i f s)))
      go true e k = sym (laid_all-empty gs s e)
      go false e k = k
