-- Laws of what a removal changes in the lent slices. It touches its cell's block, so that a propagation touches every block in which something changed;
-- and without the marks of blocks it is what is kept beside the domains. Follows docs/RULES.md, "Propagation" and "Run". Assumes nothing.
use mathlib.Core.Bool.{Bool, true, false, cond}
use mathlib.Core.List.{List, []}
use mathlib.Core.Logic.{inr}
use mathlib.Core.Path.{◌≡◌, refl, sym, ap, subst, ◌∙◌}
use Prim.Native.Nat.{ℕ, zero, suc, ◌+◌, ◌*◌, ◌≤◌, ◌<◌}
use native.Mathlib.Omega.{arith}
use lib.Ieee.{Float, nan}
use lib.ListN.{length, get_or, set, take, drop, length-set}
use lib.Seq.{get_or-set_same, get_or-set_other, take-set-le, take-set-lt, get_or-take, get_or-drop, take-take, take_at, length-take-le}
use Rattle.adjacency.specs.Tables.{Table}
use Rattle.adjacency.specs.Weights.{weight_of, weight_sum}
use Rattle.grid.specs.Grid.{Grid, cells}
use Rattle.notes.specs.Blocks.{blocks, block_of, block_at, touched, Watched}
use Rattle.logarithms.specs.Entropy.{entropy}
use Rattle.notes.specs.declared.inner.Note.{Note}
use Rattle.consistency.specs.Domains.{removed}
use Rattle.consistency.specs.Worklist.{Removal, State, state, remove, propagated}
use Rattle.consistency.specs.Safe.{Safe}
use Rattle.propagation.specs.declared.inner.propagator.Pile.{Pile}
use Rattle.notes.specs.Beside.{Beside, beside, beside_in, weighted_in, lessened_by, lessened, proposes, written, note_after, noted, proposing, kept, unmarked}
use Rattle.notes.specs.Watching.{touching, watching}
use Rattle.propagation.specs.Lent.{state_of, Lent, Ground}
use Rattle.consistency.proofs.MapLaws.{mapped}
use Rattle.consistency.proofs.KeptLaws.{Endures, endures_propagated, mapped-inside}
use Rattle.propagation.proofs.LentLaws.{lent-safe}
use Rattle.notes.proofs.WatchedLaws.{watched_same, watched-at, watched-turn}

-- ---- what is left alone

-- as many marks, and no other than cell c's are changed; and no noted entropy but cell c's
record Alone (n c : ℕ) (x y : Beside) : Type 0 where
  long : length y.marks ≡ length x.marks
  noted : (k : ℕ) → (k ≡ c → ⊥) → get_or y.floats (n + k) nan ≡ get_or x.floats (n + k) nan
  marked : (k : ℕ) → (k ≡ c → ⊥) → (k ≡ n + c → ⊥) → get_or y.marks k 0 ≡ get_or x.marks k 0

module _ {n c : ℕ} where
  alone_same : (x : Beside) → Alone n c x x
  alone_same x = record { long = refl; noted = λ _ _. refl; marked = λ _ _ _. refl }

  alone-turn : {x y z : Beside} → Alone n c x y → Alone n c y z → Alone n c x z
  alone-turn A B =
      record {
        long = B.long ∙ A.long;
        noted = λ k e. B.noted k e ∙ A.noted k e;
        marked = λ k e f. B.marked k e f ∙ A.marked k e f;
      }

  alone-lessened : (w : ℕ) (x : Beside) → c < n → Alone n c x (lessened_by w c x)
  unfolding lessened_by
  alone-lessened zero x h = alone_same x
  alone-lessened (suc w) x h =
      record { long = refl; noted = λ k e. get_or-set_other x.floats c (n + k) _ nan (λ z. omega arith); marked = λ _ _ _. refl }

  alone-written : (m : Note) (x : Beside) → Alone n c x (written n c m x)
  unfolding written
  alone-written m x =
      record {
        long = simp length-set;
        noted = λ k e. get_or-set_other x.floats (n + c) (n + k) m.entropy nan (λ z. e (omega arith));
        marked = λ k e f. get_or-set_other (set x.marks c m.count) (n + c) k 1 0 f ∙ get_or-set_other x.marks c k m.count 0 e;
      }

  module _ (ws noise : List ℕ) where
    alone-proposing : (p w : ℕ) (x : Beside) → Alone n c x (proposing ws noise n c p w x)
    unfolding proposing noted
    alone-proposing p w x = go (proposes ws p w)
      where
        go : (b : Bool)
            → Alone n c x (cond b (noted noise n c (entropy (weight_sum ws w) (get_or x.floats c nan)) (weighted_in ws w) x) x)
        go true = alone-written (note_after noise n c (entropy (weight_sum ws w) (get_or x.floats c nan)) (weighted_in ws w) x) x
        go false = alone_same x

-- ---- every block in which something changed is touched

module _ (ws noise : List ℕ) (n : ℕ) where
  alone-kept : (u : Removal) (D : List ℕ) (x : Beside) → u.cell < n → Alone n u.cell x (kept ws noise n u D x)
  unfolding kept lessened
  alone-kept u D x h = alone-turn (alone-lessened (weight_of ws u.pattern) x h) (alone-proposing ws noise u.pattern (get_or D u.cell 0) _)

  pub watched-watching : (u : Removal) (D : List ℕ) (x : Beside) → u.cell < n → 2 * n + blocks n ≤ length x.marks
      → let E = removed D u.cell u.pattern in
      let y = watching ws noise n u E x in
      Watched n D x.floats x.marks E y.floats y.marks
  unfolding watching touching touched
  watched-watching u D x h room =
      let E = removed D u.cell u.pattern in
      let y = kept ws noise n u E x in
      let A : Alone n u.cell x y = alone-kept u E x h in
      let at = block_at n (block_of u.cell) in
      watched-at u.cell (simp length-set A.long)
      (get_or-set_same y.marks at 0 0 (omega (arith, A.long)))
      (λ k e. get_or-set_other y.marks at (block_at n k) 0 0 (λ z. e (omega arith)) ∙ A.marked (block_at n k) (λ z. omega arith) (λ z. omega arith))
      (λ k hk e. (
        get_or-set_other D u.cell k _ 0 e,
        A.noted k e,
        get_or-set_other y.marks at k 0 0 (λ z. omega arith) ∙ A.marked k e (λ z. omega arith),
      ))

-- the start of a propagation changes no cell's note and no block's mark
module _ (n : ℕ) (marks marks' : List ℕ) (long : length marks' ≡ length marks) (room : 2 * n ≤ length marks)
    (e : (floats : List Float) → beside_in n floats marks' ≡ unmarked n (beside_in n floats marks)) (f : drop (2 * n) marks' ≡ drop (2 * n) marks) where
  front : take n marks' ≡ take n marks
  unfolding unmarked
  front =
      sym (take-take n (2 * n) marks' (omega arith))
      ∙ ap (λ (x : Beside). take n x.marks) (e [])
      ∙ take_at (take n (take (2 * n) marks)) _ n (length-take-le n (take (2 * n) marks) (rw (length-take-le (2 * n) marks room) (omega arith)))
      ∙ take-take n (2 * n) marks (omega arith)

  pub watched-unmarked : (D : List ℕ) (floats : List Float) → Watched n D floats marks D floats marks'
  watched-unmarked D floats =
      record {
        long = long;
        each = λ y _.
            inr (
              sym (get_or-drop (2 * n) marks' y 0) ∙ ap (λ (l : List ℕ). get_or l y 0) f ∙ get_or-drop (2 * n) marks y 0,
              λ c hc _. (refl, refl, sym (get_or-take n marks' c 0 hc) ∙ ap (λ (l : List ℕ). get_or l c 0) front ∙ get_or-take n marks c 0 hc),
            );
      }

-- ---- a removal in propagation

module _ (P : ℕ) (ws noise : List ℕ) (n : ℕ) (u : Removal) where
  -- a state whose last removal proposes and touches its block
  abbrev proposed_in : State Beside → State Beside
  proposed_in s =
      state s.counts s.domains s.pending s.empty
      (touching n u.cell (proposing ws noise n u.cell u.pattern (get_or s.domains u.cell 0) s.beside))

  -- a removal in propagation is a removal that then proposes and touches its block
  remove-watching : (s : State Beside) → remove P (watching ws noise n) u s ≡ proposed_in (remove P (lessened ws) u s)
  unfolding remove watching kept
  remove-watching s = refl

  pub remove-proposed : (s : State Beside) {s' : State Beside} {x : Beside} {marks : List ℕ} → s' ≡ remove P (lessened ws) u s
      → x ≡ proposing ws noise n u.cell u.pattern (get_or s'.domains u.cell 0) s'.beside → marks ≡ touched n u.cell x.marks
      → state s'.counts s'.domains s'.pending s'.empty (beside x.floats marks) ≡ remove P (watching ws noise n) u s
  unfolding touching
  remove-proposed s {s'} {x} e k m =
      ap (λ (l : List ℕ). state s'.counts s'.domains s'.pending s'.empty (beside x.floats l)) m
      ∙ ap (λ (y : Beside). state s'.counts s'.domains s'.pending s'.empty (touching n u.cell y)) k
      ∙ ap proposed_in e ∙ sym (remove-watching s)

-- ---- without the marks of blocks

-- what is kept beside the domains of n cells, without the marks of blocks
abbrev pub viewed : ℕ → Beside → Beside
viewed n x = beside_in n x.floats x.marks

viewed-touching : (n c : ℕ) (x : Beside) → viewed n (touching n c x) ≡ viewed n x
unfolding touching touched
viewed-touching n c x = ap (beside x.floats) (take-set-le (2 * n) x.marks (block_at n (block_of c)) 0 (omega arith))

viewed-lessened : (n w c : ℕ) (x : Beside) → viewed n (lessened_by w c x) ≡ lessened_by w c (viewed n x)
unfolding lessened_by
viewed-lessened n zero c x = refl
viewed-lessened n (suc w) c x = refl

module _ (noise : List ℕ) (n c : ℕ) (h : c < n) where
  viewed-written : (m : Note) (x : Beside) → viewed n (written n c m x) ≡ written n c m (viewed n x)
  unfolding written
  viewed-written m x =
      ap (beside (set x.floats (n + c) m.entropy))
      (take-set-lt (2 * n) (set x.marks c m.count) (n + c) 1 (omega arith)
      ∙ ap (λ (l : List ℕ). set l (n + c) 1) (take-set-lt (2 * n) x.marks c m.count (omega arith)))

  viewed-note_after : (e : Float) (m : ℕ) (x : Beside) → note_after noise n c e m (viewed n x) ≡ note_after noise n c e m x
  viewed-note_after e m x = rw (get_or-take (2 * n) x.marks (n + c) 0 (omega arith), get_or-take (2 * n) x.marks c 0 (omega arith))

  viewed-noted : (e : Float) (m : ℕ) (x : Beside) → viewed n (noted noise n c e m x) ≡ noted noise n c e m (viewed n x)
  unfolding noted
  viewed-noted e m x =
      viewed-written (note_after noise n c e m x) x ∙ ap (λ (k : Note). written n c k (viewed n x)) (sym (viewed-note_after e m x))

module _ (ws noise : List ℕ) (n : ℕ) where
  viewed-proposing : (c p w : ℕ) (x : Beside) → c < n → viewed n (proposing ws noise n c p w x) ≡ proposing ws noise n c p w (viewed n x)
  unfolding proposing
  viewed-proposing c p w x h = go (proposes ws p w)
    where
      e : Float
      e = entropy (weight_sum ws w) (get_or x.floats c nan)

      go : (b : Bool) → viewed n (cond b (noted noise n c e (weighted_in ws w) x) x) ≡ cond b (noted noise n c e (weighted_in ws w) (viewed n x)) (viewed n x)
      go true = viewed-noted noise n c h e (weighted_in ws w) x
      go false = refl

  viewed-watching : (u : Removal) (D : List ℕ) (x : Beside) → u.cell < n → viewed n (watching ws noise n u D x) ≡ kept ws noise n u D (viewed n x)
  unfolding watching kept lessened
  viewed-watching u D x h =
      viewed-touching n _ (kept ws noise n u D x)
      ∙ viewed-proposing u.cell u.pattern (get_or D u.cell 0) (lessened_by (weight_of ws u.pattern) u.cell x) h
      ∙ ap (proposing ws noise n u.cell u.pattern (get_or D u.cell 0)) (viewed-lessened n (weight_of ws u.pattern) u.cell x)

-- ---- a propagation

module _ {t : Table} {g : Grid} {n : ℕ} (G : Ground t g n) (ws noise : List ℕ) {D C Q : List ℕ} {pile : Pile} (L : Lent t.count n D C Q pile)
    (floats : List Float) (marks : List ℕ) {s : State Beside}
    (e : s ≡ propagated t g (watching ws noise n) (state_of t.count D C Q pile (beside floats marks))) where
  safe : Safe t.count (cells g) (cells g * t.count) (state_of t.count D C Q pile (beside floats marks))
  safe = subst (λ (k : ℕ). Safe t.count k (k * t.count) (state_of t.count D C Q pile (beside floats marks))) G.all (lent-safe L _)

  -- every block in which something changed is touched
  pub watched-propagated : 2 * n + blocks n ≤ length marks → Watched n D floats marks s.domains s.beside.floats s.beside.marks
  watched-propagated room =
      subst (λ (r : State Beside). Watched n D floats marks r.domains r.beside.floats r.beside.marks) (sym e)
      (endures_propagated t g G.accepted (watching ws noise n) (λ E x. Watched n D floats marks E x.floats x.marks) endures (cells g * t.count) _ safe watched_same)
    where
      endures : Endures t.count (cells g) (watching ws noise n) (λ E x. Watched n D floats marks E x.floats x.marks)
      endures u E x h p W = watched-turn W (watched-watching ws noise n u E x (omega (arith, G.all)) (omega (arith, W.long)))

  -- without the marks of blocks it is the work list that keeps what is kept beside the domains
  pub viewed-propagated : {x : Beside} → beside_in n floats marks ≡ x → mapped (viewed n) s ≡ propagated t g (kept ws noise n) (state_of t.count D C Q pile x)
  viewed-propagated k =
      ap (mapped (viewed n)) e
      ∙ mapped-inside t g G.accepted (viewed n) (watching ws noise n) (kept ws noise n)
      (λ u E x h. viewed-watching ws noise n u E x (omega (arith, G.all))) (cells g * t.count) _ safe
      ∙ ap (λ (x : Beside). propagated t g (kept ws noise n) (state_of t.count D C Q pile x)) k
