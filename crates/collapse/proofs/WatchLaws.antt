-- What a forbid or a choice changes is found by the observer: where something changed, the mark of its block is 0. What it asks for goes from its own cell
-- alone, whose block is touched before. Follows docs/RULES.md, "Run". Assumes nothing.
use mathlib.Core.Bool.{Bool, true, false, cond}
use mathlib.Core.List.{List, [], ◌∷◌}
use mathlib.Core.Path.{◌≡◌, refl, sym, ap, subst, ◌∙◌}
use Prim.Native.Nat.{ℕ, zero, suc, ◌+◌, ◌*◌, ◌≤◌, ◌<◌}
use native.Mathlib.Nat.{le_refl}
use native.Mathlib.Omega.{arith}
use lib.Dec.{eqb}
use lib.Ieee.{Float, nan}
use lib.ListN.{length, get_or, take, drop, length-set}
use lib.Seq.{get_or-set_same, get_or-set_other, take-set-le, take-take}
use Rattle.adjacency.specs.Weights.{weight_of}
use Rattle.grid.specs.Grid.{cells}
use Rattle.notes.specs.Blocks.{blocks, block_of, block_at, touched, Watched}
use Rattle.consistency.specs.Domains.{possible}
use Rattle.consistency.specs.Worklist.{Removal, removal, State, remove, forbid_at, forbid, forbids, propagated}
use Rattle.consistency.specs.Start.{failing, others}
use Rattle.propagation.specs.declared.inner.propagator.Pile.{Pile}
use Rattle.notes.specs.Beside.{Beside, beside, beside_in, lessened_by, lessened, kept, unmarked}
use Rattle.propagation.specs.Lent.{state_of}
use Rattle.notes.specs.Sizes.{Roomy}
use Rattle.choice.specs.Observer.{notes_in, observe, Observed}
use Rattle.choice.specs.Cache.{Fresh, recoded, forgotten}
use Rattle.forbids.specs.declared.Forbid.{Forbid}
use Rattle.course.specs.Run.{Given, asked, laid}
use Rattle.collapse.specs.Steps.{idle, Found, Laid}
use Rattle.choice.proofs.CacheLaws.{notes_in-front, fresh-watched, recoded-front, recoded-length, recoded-fresh, forgotten-front, forgotten-fresh}
use Rattle.notes.proofs.WatchedLaws.{watched-at, watched-turn}
use Rattle.collapse.proofs.StepLaws.{laid-is}

-- ---- removals at one cell

-- every removal is at cell c
abbrev At : ℕ → List Removal → Type 0
At c [] = Unit {0}
At c (u ∷ us) = (u.cell ≡ c) × At c us

failing-at : (test : ℕ → Bool) (n i c : ℕ) → At c (failing test n i c)
unfolding failing
failing-at test zero i c = tt
failing-at test (suc n) i c = go (test i) (failing-at test n (suc i) c)
  where
    go : (b : Bool) → At c (failing test n (suc i) c) → At c (cond b (failing test n (suc i) c) (removal c i ∷ failing test n (suc i) c))
    go true a = a
    go false a = (refl, a)

-- what a forbid asks to go is at its cell
asked-at : (P : ℕ) (f : Forbid) → At f.cell (asked P f)
unfolding asked others
asked-at P f = go (eqb f.keep 0)
  where
    go : (b : Bool) → At f.cell (cond b (removal f.cell f.pattern ∷ []) (others P f.cell f.pattern))
    go true = (refl, tt)
    go false = failing-at (λ q. eqb q f.pattern) P 0 f.cell

-- the other cells of n have the words that they had, and every cell its noted entropy
pub record Aside (n c : ℕ) (D : List ℕ) (F : List Float) (D' : List ℕ) (F' : List Float) : Type 0 where
  pub words : (m : ℕ) → (m ≡ c → ⊥) → get_or D' m 0 ≡ get_or D m 0
  pub values : (m : ℕ) → get_or F' (n + m) nan ≡ get_or F (n + m) nan

module _ (n c : ℕ) (h : c < n) (P : ℕ) (ws : List ℕ) where
  abbrev Beyond : State Beside → State Beside → Type 0
  Beyond s s' = Aside n c s.domains s.beside.floats s'.domains s'.beside.floats

  lessened-value : (w : ℕ) (x : Beside) (m : ℕ) → get_or (lessened_by w c x).floats (n + m) nan ≡ get_or x.floats (n + m) nan
  unfolding lessened_by
  lessened-value zero x m = refl
  lessened-value (suc w) x m = get_or-set_other x.floats c (n + m) _ nan (λ e. omega (arith, h, e))

  removed-aside : (s : State Beside) (p : ℕ) → Beyond s (remove P (lessened ws) (removal c p) s)
  unfolding remove lessened
  removed-aside s p =
      record { words = λ m z. get_or-set_other s.domains c m _ 0 z; values = λ m. lessened-value (weight_of ws p) s.beside m }

  after-aside : (s s₁ s₂ : State Beside) → Beyond s s₁ → Beyond s₁ s₂ → Beyond s s₂
  after-aside s s₁ s₂ A B = record { words = λ m z. B.words m z ∙ A.words m z; values = λ m. B.values m ∙ A.values m }

  forbid-aside : (b p : ℕ) (s : State Beside) → Beyond s (forbid_at P (lessened ws) b (removal c p) s)
  unfolding forbid_at
  forbid-aside zero p s = record { words = λ m z. refl; values = λ m. refl }
  forbid-aside (suc b) p s = removed-aside s p

  pub forbids-aside : (us : List Removal) (s : State Beside) → At c us → Beyond s (forbids P (lessened ws) us s)
  unfolding forbids forbid
  forbids-aside [] s a = record { words = λ m z. refl; values = λ m. refl }
  forbids-aside (u ∷ us) s (e, a) =
      let r = forbid P (lessened ws) u s in
      after-aside s r (forbids P (lessened ws) us r) (one u s e) (forbids-aside us r a)
    where
      one : (u : Removal) (s : State Beside) → u.cell ≡ c → Beyond s (forbid_at P (lessened ws) (possible s.domains u.cell u.pattern) u s)
      one u s e =
          subst (λ (k : ℕ). Beyond s (forbid_at P (lessened ws) (possible s.domains k u.pattern) (removal k u.pattern) s)) (sym e)
          (forbid-aside (possible s.domains c u.pattern) u.pattern s)

-- ---- touched, struck and propagated

-- the block of a cell is one of the blocks
pub block-below : (n c : ℕ) → c < n → block_of c < blocks n
block-below n c h = omega arith

module _ (n c : ℕ) (h : c < n) (D : List ℕ) (F : List Float) (M : List ℕ) (long : 2 * n + blocks n ≤ length M) where
  touched-here : get_or (touched n c M) (block_at n (block_of c)) 0 ≡ 0
  unfolding touched
  touched-here = get_or-set_same M (block_at n (block_of c)) 0 0 (omega (arith, long, block-below n c h))

  touched-there : (k : ℕ) → (k ≡ block_at n (block_of c) → ⊥) → get_or (touched n c M) k 0 ≡ get_or M k 0
  unfolding touched
  touched-there k z = get_or-set_other M (block_at n (block_of c)) k 0 0 z

  pub watched-lay : (D₁ : List ℕ) (F₁ : List Float) {D' M' : List ℕ} {F' : List Float} → Aside n c D F D₁ F₁
      → Watched n D₁ F₁ (touched n c M) D' F' M' → Watched n D F M D' F' M'
  unfolding touched
  watched-lay D₁ F₁ A W =
      watched-turn
      (watched-at c (length-set M (block_at n (block_of c)) 0) touched-here (λ y z. touched-there (block_at n y) (λ k. z (omega (arith, k))))
      (λ k l z. (A.words k z, A.values k, touched-there k (λ e. omega (arith, e, l)))))
      W

-- ---- a forbid is laid on lent slices; the slices with one mark are after what it asks for went

module _ (i : Given) (f : Forbid) (D C Q : List ℕ) (F : List Float) (M D₁ C₁ Q₁ : List ℕ) (pile : Pile) (F₁ : List Float) (M₁ : List ℕ)
    (hc : f.cell < length D) (d : length D₁ ≡ length D) (touch : M₁ ≡ touched (length D) f.cell M)
    (struck : (marks : List ℕ) → state_of i.table.count D₁ C₁ Q₁ pile (beside F₁ marks)
    ≡ forbids i.table.count (lessened i.weights) (asked i.table.count f) (state_of i.table.count D C Q idle (beside F marks))) where
  -- the marks of cells are as they were
  touched-cut : take (2 * length D₁) M₁ ≡ take (2 * length D) M
  unfolding touched
  touched-cut =
      ap (λ (n : ℕ). take (2 * n) M₁) d ∙ ap (take (2 * length D)) touch
      ∙ take-set-le (2 * length D) M (block_at (length D) (block_of f.cell)) 0 (omega arith)

  pub laid_in : (D' C' Q' : List ℕ) (r : Pile) (F' : List Float) (M' : List ℕ) → length D ≡ cells i.grid → length D' ≡ length D₁
      → state_of i.table.count D' C' Q' r (beside_in (length D₁) F' M')
      ≡ propagated i.table i.grid (kept i.weights i.noise (length D₁)) (state_of i.table.count D₁ C₁ Q₁ pile (unmarked (length D₁) (beside_in (length D₁) F₁ M₁)))
      → state_of i.table.count D' C' Q' r (beside_in (length D') F' M') ≡ laid i f (state_of i.table.count D C Q idle (beside_in (length D) F M))
  laid_in D' C' Q' r F' M' all d' e =
      ap (λ (n : ℕ). state_of i.table.count D' C' Q' r (beside_in n F' M')) d'
      ∙ laid-is i f (state_of i.table.count D C Q idle (beside_in (length D) F M)) (state_of i.table.count D₁ C₁ Q₁ pile (beside_in (length D₁) F₁ M₁)) (d ∙ all)
      (struck (take (2 * length D₁) M₁)
      ∙ ap (λ (marks : List ℕ). forbids i.table.count (lessened i.weights) (asked i.table.count f) (state_of i.table.count D C Q idle (beside F marks))) touched-cut)
      e

  struck_aside : Aside (length D) f.cell D F D₁ F₁
  struck_aside =
      subst (λ (s : State Beside). Aside (length D) f.cell D F s.domains s.beside.floats) (sym (struck M))
      (forbids-aside (length D) f.cell hc i.table.count i.weights (asked i.table.count f) (state_of i.table.count D C Q idle (beside F M))
      (asked-at i.table.count f))

  pub laid-watched : (D' : List ℕ) (F' : List Float) (M' : List ℕ) → 2 * length D + blocks (length D) ≤ length M → Watched (length D₁) D₁ F₁ M₁ D' F' M' → Watched (length D) D F M D' F' M'
  laid-watched D' F' M' long W =
      watched-lay (length D) f.cell hc D F M long D₁ F₁ struck_aside
      (subst (λ (m : List ℕ). Watched (length D) D₁ F₁ m D' F' M') touch (subst (λ (n : ℕ). Watched n D₁ F₁ M₁ D' F' M') d W))

-- ---- the marks of blocks over a turn; M₁ is after the observation

module _ (noise : List ℕ) (w : ℕ) (D : List ℕ) (F : List Float) (M : List ℕ) {M₁ : List ℕ} (long : length M ≡ 2 * length D + blocks (length D))
    (e : M₁ ≡ recoded (length D) (notes_in (length D) noise D F M w) M) where
  -- an observation leaves the marks of cells
  pub observed-cut : take (2 * length D) M₁ ≡ take (2 * length D) M
  observed-cut = ap (take (2 * length D)) e ∙ recoded-front (length D) (notes_in (length D) noise D F M w) M (omega (arith, long))

  -- what it leaves of blocks is so
  pub observed-found : Found noise w D F M₁
  observed-found = subst (λ (m : List ℕ). Found noise w D F m) (sym e) (recoded-fresh (length D) noise D F M w (omega (arith, long)))

  -- and still is after a choice
  pub chosen-found : (D' : List ℕ) (F' : List Float) (M' : List ℕ) → length D' ≡ length D → Watched (length D) D F M₁ D' F' M' → Found noise w D' F' M'
  chosen-found D' F' M' d W =
      subst (λ (n : ℕ). Fresh (notes_in n noise D' F' M' w) (drop (2 * n) M')) (sym d)
      (fresh-watched (ap length e ∙ recoded-length (length D) (notes_in (length D) noise D F M w) M long ∙ long) W observed-found)

-- the marks of blocks are no part of what is observed
pub observed_of : (n w : ℕ) (noise D : List ℕ) (F : List Float) (M : List ℕ) {o : Observed} → o ≡ observe (notes_in n noise D F M w)
    → o ≡ observe (notes_in n noise D F (take (2 * n) M) w)
observed_of n w noise D F M e = e ∙ ap observe (notes_in-front n noise D F (take (2 * n) M) M w (sym (take-take (2 * n) (2 * n) M (le_refl (2 * n)))))

-- ---- before the first turn the marks of blocks are forgotten; M₁ is after that

module _ (D : List ℕ) (M : List ℕ) {M₁ : List ℕ} (long : length M ≡ 2 * length D + blocks (length D)) (e : M₁ ≡ forgotten (length D) M) where
  pub forgotten-cut : take (2 * length D) M₁ ≡ take (2 * length D) M
  forgotten-cut = ap (take (2 * length D)) e ∙ forgotten-front (length D) M (omega (arith, long))

pub forgotten-found : (noise : List ℕ) (w : ℕ) (D : List ℕ) (F : List Float) (M : List ℕ) {M₁ : List ℕ} → length M ≡ 2 * length D + blocks (length D)
    → M₁ ≡ forgotten (length D) M → Found noise w D F M₁
forgotten-found noise w D F M {M₁} long e =
    subst (λ (m : List ℕ). Fresh (notes_in (length D) noise D F M₁ w) (drop (2 * length D) m)) (sym e)
    (forgotten-fresh (notes_in (length D) noise D F M₁ w) (length D) M (omega (arith, long)))

-- what is observed then is what is observed of the marks of cells
pub forgotten-observed : (w : ℕ) (noise D : List ℕ) (F : List Float) (M : List ℕ) {M₁ : List ℕ} → length M ≡ 2 * length D + blocks (length D) → M₁ ≡ forgotten (length D) M
    → {o : Observed} → o ≡ observe (notes_in (length D) noise D F M₁ w) → o ≡ observe (notes_in (length D) noise D F (take (2 * length D) M) w)
forgotten-observed w noise D F M {M₁} long e k =
    k ∙ ap observe (notes_in-front (length D) noise D F (take (2 * length D) M) M₁ w
    (forgotten-cut D M long e ∙ sym (take-take (2 * length D) (2 * length D) M (le_refl (2 * length D)))))

-- where the marks of cells are as they were the run stands where it stood
pub laid-at : {i : Given} (P : ℕ) (D C Q : List ℕ) (F : List Float) (M M₁ : List ℕ) → Laid i (state_of P D C Q idle (beside_in (length D) F M))
    → take (2 * length D) M₁ ≡ take (2 * length D) M → Laid i (state_of P D C Q idle (beside_in (length D) F M₁))
laid-at {i} P D C Q F M M₁ L e = subst (λ (m : List ℕ). Laid i (state_of P D C Q idle (beside F m))) (sym e) L

pub roomy-at : {n : ℕ} {noise M M₁ : List ℕ} {F : List Float} → length M₁ ≡ length M → Roomy n noise F M → Roomy n noise F M₁
roomy-at k R = record { heard = R.heard; valued = R.valued; marked = rw k R.marked }
