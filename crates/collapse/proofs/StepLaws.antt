-- Laws of a run's steps on lent slices: removing the possible ones upward removes all that are asked for, and what each step leaves for the next.
-- Follows docs/RULES.md, "Run" and "Propagation".
-- Assumes nothing.
use mathlib.Core.Bool.{Bool, true, false, cond, true≢false}
use mathlib.Core.List.{List, [], ◌∷◌}
use mathlib.Core.Path.{◌≡◌, refl, sym, ap, subst, ◌∙◌}
use Prim.Native.Nat.{ℕ, zero, suc, ◌+◌, ◌*◌, ◌%◌, ◌≤◌, ◌<◌}
use native.Mathlib.Decide.{ℕ_discrete}
use native.Mathlib.Nat.{mod-lt}
use native.Mathlib.Omega.{arith}
use lib.Dec.{eqb}
use lib.Ieee.{Float}
use lib.ListN.{length, get_or, take, drop, length-take}
use lib.Seq.{get_or-set_same}
use borrow.Author.Tests.{eqb-false, eq-eqb, ne_eqb, lt-ltb, le-ltb}
use Rattle.words.specs.Words.{bit, has, without, how_many, least}
use Rattle.adjacency.specs.Weights.{Weighed, whole_weight, weight_sum, mask}
use Rattle.adjacency.specs.Fours.{sixteens, Fours}
use Rattle.consistency.specs.Domains.{possible}
use Rattle.consistency.specs.Worklist.{Removal, removal, State, state, remove, forbid_at, forbid, forbids, propagated}
use Rattle.consistency.specs.Start.{failing, others}
use Rattle.consistency.specs.Safe.{Safe}
use Rattle.propagation.specs.declared.inner.propagator.Pile.{Pile}
use Rattle.adjacency.specs.Tables.{Table}
use Rattle.grid.specs.Grid.{Grid, cells}
use Rattle.logarithms.specs.Logs.{Logs}
use Rattle.logarithms.specs.Lookups.{Lookups}
use Rattle.notes.specs.Beside.{Beside, lessened, kept, unmarked}
use Rattle.propagation.specs.Lent.{state_of, Lent, Ground}
use Rattle.notes.specs.Sizes.{Alongside}
use Rattle.forbids.specs.declared.Forbid.{Forbid}
use Rattle.course.specs.Run.{Given, asked, reduced_by, laid, chosen, decided, still, notes_of, sighted, seen, drawn, turn, Turn, ended}
use Rattle.std.specs.Prelude.{Some, None, Option}
use Rattle.choice.specs.declared.inner.Sight.{Sight}
use Rattle.choice.specs.Observer.{notes_in, observe, sight_of, Observed, sight}
use Rattle.choice.specs.Choice.{draw, taken}
use Rattle.forbids.specs.Forbids.{asking}
use Rattle.loops.proofs.TestLaws.{every-turn, every-stop, every-end}
use Rattle.words.proofs.BitLaws.{bit_none, bit_not, bit_below, has-true, true-has}
use Rattle.words.proofs.ChangeLaws.{bit-without, bit-without_other, without-le, without-less}
use Rattle.words.proofs.LeastLaws.{least-below, least-found}
use Rattle.adjacency.proofs.FourLaws.{sixteens-most}
use Rattle.consistency.proofs.Keep.{safe-remove, safe-forbids}
use Rattle.propagation.proofs.LentLaws.{lent-safe, lent-after, alongside-after}
use Rattle.course.proofs.StateLaws.{asked-inside}
use Rattle.choice.proofs.ChoiceLaws.{taken_in}
use Rattle.choice.proofs.ObserverLaws.{valid-weight}
use Rattle.course.proofs.TurnLaws.{sight-counts}

-- ---- removals that are asked for

module _ (P : ℕ) {X : Type 0} (keep : Removal → List ℕ → X → X) where
  pub forbid-gone : (u : Removal) (s : State X) → possible s.domains u.cell u.pattern ≡ 0 → forbid P keep u s ≡ s
  unfolding forbid
  forbid-gone u s e = rw (e, forbid_at)

  pub forbid-there : (u : Removal) (s : State X) → possible s.domains u.cell u.pattern ≡ 1 → forbid P keep u s ≡ remove P keep u s
  unfolding forbid forbid_at
  forbid-there u s e = ap (λ (b : ℕ). forbid_at P keep b u s) e

  -- what is possible at a cell after the removal of a pattern there
  module _ (s : State X) (c q : ℕ) (h : c < length s.domains) where
    pub remove-word : get_or (remove P keep (removal c q) s).domains c 0 ≡ without (get_or s.domains c 0) q
    unfolding remove
    remove-word = get_or-set_same s.domains c _ 0 h

    remove-gone : possible (remove P keep (removal c q) s).domains c q ≡ 0
    remove-gone = ap (λ (w : ℕ). bit w q) remove-word ∙ bit-without (get_or s.domains c 0) q

    remove_other : (r : ℕ) → (r ≡ q → ⊥) → possible (remove P keep (removal c q) s).domains c r ≡ possible s.domains c r
    remove_other r n = ap (λ (w : ℕ). bit w r) remove-word ∙ bit-without_other (get_or s.domains c 0) q r n

  module _ (test : ℕ → Bool) (c : ℕ) where
    -- where none of them is possible nothing goes
    pub forbids_none : (n i : ℕ) (s : State X) → ((q : ℕ) → i ≤ q → q < i + n → test q ≡ false → possible s.domains c q ≡ 0)
        → forbids P keep (failing test n i c) s ≡ s
    unfolding failing forbids
    forbids_none zero i s h = refl
    forbids_none (suc n) i s h = go (test i) refl (forbids_none n (suc i) s (λ q a b. h q (omega arith) (omega arith)))
      where
        go : (b : Bool) → test i ≡ b → forbids P keep (failing test n (suc i) c) s ≡ s
            → forbids P keep (cond b (failing test n (suc i) c) (removal c i ∷ failing test n (suc i) c)) s ≡ s
        go true e f = f
        go false e f = ap (forbids P keep (failing test n (suc i) c)) (forbid-gone (removal c i) s (h i (omega arith) (omega arith) e)) ∙ f

    -- the least that is possible goes first
    module _ (s : State X) (q : ℕ) (h : c < length s.domains) (out : test q ≡ false) (there : possible s.domains c q ≡ 1) where
      pub forbids-first : (n i : ℕ) → i ≤ q → q < i + n → ((r : ℕ) → i ≤ r → r < q → test r ≡ false → possible s.domains c r ≡ 0)
          → forbids P keep (failing test n i c) (remove P keep (removal c q) s) ≡ forbids P keep (failing test n i c) s
      unfolding failing forbids
      forbids-first zero i a b first = absurd (omega arith)
      forbids-first (suc n) i a b first = step (ℕ_discrete i q) (λ z. forbids-first n (suc i) (omega (arith, z)) (omega arith) (λ r x y. first r (omega arith) y))
        where
          s' : State X
          s' = remove P keep (removal c q) s

          rest : List Removal
          rest = failing test n (suc i) c

          here : forbids P keep (removal c q ∷ rest) s' ≡ forbids P keep (removal c q ∷ rest) s
          here = ap (forbids P keep rest) (forbid-gone (removal c q) s' (remove-gone s c q h) ∙ sym (forbid-there (removal c q) s there))

          later : (b : Bool) → test i ≡ b → (i ≡ q → ⊥) → i < q → forbids P keep rest s' ≡ forbids P keep rest s
              → forbids P keep (cond b rest (removal c i ∷ rest)) s' ≡ forbids P keep (cond b rest (removal c i ∷ rest)) s
          later true e z l f = f
          later false e z l f =
              let gone = first i (omega arith) l e in
              ap (forbids P keep rest) (forbid-gone (removal c i) s' (remove_other s c q h i z ∙ gone))
              ∙ f ∙ ap (forbids P keep rest) (sym (forbid-gone (removal c i) s gone))

          step : Dec (i ≡ q) → ((i ≡ q → ⊥) → forbids P keep rest s' ≡ forbids P keep rest s)
              → forbids P keep (cond (test i) rest (removal c i ∷ rest)) s' ≡ forbids P keep (cond (test i) rest (removal c i ∷ rest)) s
          step (yes z) more =
              subst (λ (j : ℕ). forbids P keep (cond (test j) rest (removal c j ∷ rest)) s' ≡ forbids P keep (cond (test j) rest (removal c j ∷ rest)) s) (sym z)
              (rw out here)
          step (no z) more = later (test i) refl z (omega (arith, z)) (more z)

-- ---- one; b is whether it is possible

module _ (p w : ℕ) {b : Bool} (e : b ≡ has w p) where
  pub there : b ≡ true → bit w p ≡ 1
  there t = has-true w p (sym e ∙ t)

  module _ (P : ℕ) {X : Type 0} (keep : Removal → List ℕ → X → X) (s : State X) (c : ℕ) (at : w ≡ get_or s.domains c 0) where
    pub forbids-there : b ≡ true → {s' : State X} → s' ≡ remove P keep (removal c p) s → s' ≡ forbids P keep (removal c p ∷ []) s
    unfolding forbids
    forbids-there t k = k ∙ sym (forbid-there P keep (removal c p) s (ap (λ (v : ℕ). bit v p) (sym at) ∙ there t))

    pub forbids-gone : b ≡ false → s ≡ forbids P keep (removal c p ∷ []) s
    unfolding forbids
    forbids-gone t = sym (forbid-gone P keep (removal c p) s (ap (λ (v : ℕ). bit v p) (sym at) ∙ bit_not w p (λ z. true≢false (sym (true-has w p z) ∙ sym e ∙ t))))

-- ---- all but one, upward

-- the lent slices while patterns are removed as asked: as they must be, and as long as they were
pub record Striking (P n : ℕ) (C₀ Q₀ : List ℕ) (F₀ : List Float) (D C Q : List ℕ) (F : List Float) (pile : Pile) : Type 0 where
  pub lent : Lent P n D C Q pile
  pub domains : length D ≡ n
  pub counts : length C ≡ length C₀
  pub pending : length Q ≡ length Q₀
  pub floats : length F ≡ length F₀

module _ {P n : ℕ} {D C Q : List ℕ} {pile : Pile} (L : Lent P n D C Q pile) {c : ℕ} (hc : c < n) where
  inside : c < length D
  inside = omega (arith, L.safe.fit.sized)

  module _ (p : ℕ) {left : ℕ} (is : left ≡ without (get_or D c 0) p) where
    other_bit : (r : ℕ) → (r ≡ p → ⊥) → possible D c r ≡ bit left r
    other_bit r z = sym (bit-without_other (get_or D c 0) p r z) ∙ ap (λ (w : ℕ). bit w r) (sym is)

    -- with none left, all are removed
    pub others-done : {X : Type 0} (keep : Removal → List ℕ → X → X) (x : X) → left ≡ 0 → forbids P keep (others P c p) (state_of P D C Q pile x) ≡ state_of P D C Q pile x
    unfolding others
    others-done keep x z =
        forbids_none P keep (λ i. eqb i p) c P 0 (state_of P D C Q pile x)
        (λ r a b t. other_bit r (eqb-false r p t) ∙ ap (λ (w : ℕ). bit w r) z ∙ bit_none r)

    -- q is the least that is left
    module _ {q : ℕ} (Some : left ≡ 0 → ⊥) (least-is : q ≡ least 64 left) where
      next_found : (q < P) × (bit left q ≡ 1)
      next_found =
          subst (λ (r : ℕ). (r < P) × (bit left r ≡ 1)) (sym least-is)
          (least-found 64 P left L.patterns (omega (arith, is, without-le (get_or D c 0) p, L.safe.fit.words c)) Some)

      pub next_below : q < P
      next_below = next_found.0

      next_other : q ≡ p → ⊥
      next_other z = absurd (omega (arith, next_found.1, ap (λ (w : ℕ). bit w p) is, bit-without (get_or D c 0) p, ap (bit left) z))

      pub next_possible : possible D c q ≡ 1
      next_possible = other_bit q next_other ∙ next_found.1

      module _ {X : Type 0} (keep : Removal → List ℕ → X → X) (x : X) {s : State X} (e : s ≡ remove P keep (removal c q) (state_of P D C Q pile x)) where
        -- its removal is the first of those asked for
        pub others_next : forbids P keep (others P c p) s ≡ forbids P keep (others P c p) (state_of P D C Q pile x)
        unfolding others
        others_next =
            ap (forbids P keep (others P c p)) e
            ∙ forbids-first P keep (λ i. eqb i p) c (state_of P D C Q pile x) q inside (ne_eqb q p next_other) next_possible P 0 (omega arith) (omega (arith, next_below))
            (λ r a b t. other_bit r (eqb-false r p t) ∙ least-below 64 left r (omega (arith, least-is)))

        pub next_safe : Safe P n (n * P) s
        next_safe =
            subst (λ (z : State X). Safe P n (n * P) z) (sym e)
            (safe-remove P n (n * P) keep (removal c q) (state_of P D C Q pile x) hc next_below next_possible (lent-safe L x))

        pub next_less : get_or s.domains c 0 < get_or D c 0
        next_less =
            omega (
              arith,
              ap (λ (z : State X). get_or z.domains c 0) e,
              remove-word P keep (state_of P D C Q pile x) c q inside,
              without-less (get_or D c 0) q next_possible,
            )

-- ---- what a forbid asks for

module _ (P c p : ℕ) {X : Type 0} (keep : Removal → List ℕ → X → X) (s : State X) {k : ℕ} {s' : State X} where
  pub asked-one : k ≡ 0 → s' ≡ forbids P keep (removal c p ∷ []) s → s' ≡ forbids P keep (asked P (asking c p k)) s
  unfolding asked
  asked-one z e = rw z e

  pub asked-others : (k ≡ 0 → ⊥) → s' ≡ forbids P keep (others P c p) s → s' ≡ forbids P keep (asked P (asking c p k)) s
  unfolding asked
  asked-others z e = rw (ne_eqb k 0 z) e

-- it leaves the slices as they must be
module _ {P n : ℕ} {D C Q : List ℕ} {pile : Pile} (L : Lent P n D C Q pile) {c p : ℕ} (hc : c < n) (hp : p < P) (k : ℕ) {X : Type 0} (keep : Removal → List ℕ → X → X) (x : X) where
  pub struck_lent : {D' C' Q' : List ℕ} {r : Pile} {y : X} → state_of P D' C' Q' r y ≡ forbids P keep (asked P (asking c p k)) (state_of P D C Q pile x)
      → length D' ≡ n → length Q' ≡ length Q → Lent P (length D') D' C' Q' r
  struck_lent {D'} {C'} {Q'} {r} {y} e d q =
      subst (λ (m : ℕ). Lent P m D' C' Q' r) (sym d)
      (lent-after L (subst (λ (z : State X). Safe P n (n * P) z) (sym e)
      (safe-forbids P n (n * P) keep (asked P (asking c p k)) (state_of P D C Q pile x) (asked-inside P n (asking c p k) hc hp) (lent-safe L x))) q)

-- the ground, and the room beside, for as many cells as there still are
pub ground_at : {t : Table} {g : Grid} {m n : ℕ} → m ≡ n → Ground t g n → Ground t g m
ground_at e G = record { accepted = G.accepted; sized = G.sized; all = e ∙ G.all }

pub alongside-at : {P m n : ℕ} {ws noise marks marks' : List ℕ} {floats floats' : List Float} → m ≡ n → length floats' ≡ length floats → length marks' ≡ length marks
    → Alongside P n ws noise floats marks → Alongside P m ws noise floats' marks'
alongside-at {P} {m} {n} {ws} {noise} {marks} {marks'} {floats} {floats'} e f k R = subst (λ (j : ℕ). Alongside P j ws noise floats' marks') (sym e) (alongside-after R f k)

-- with the propagation of it the forbid is laid
pub laid-is : (i : Given) (f : Forbid) (s s₁ : State Beside) {s₂ : State Beside} {n : ℕ} → n ≡ cells i.grid
    → s₁ ≡ forbids i.table.count (lessened i.weights) (asked i.table.count f) s
    → s₂ ≡ propagated i.table i.grid (kept i.weights i.noise n) (state s₁.counts s₁.domains s₁.pending s₁.empty (unmarked n s₁.beside))
    → s₂ ≡ laid i f s
unfolding laid reduced_by
laid-is i f s s₁ z e k =
    (rw z at k)
    ∙ ap (λ (r : State Beside). propagated i.table i.grid (kept i.weights i.noise (cells i.grid)) (state r.counts r.domains r.pending r.empty (unmarked (cells i.grid) r.beside))) e

-- ---- what an entropy is looked up in, laid out for P patterns

-- the sums that are lent are a front of those laid out
pub sums-front : {P : ℕ} (sums : List ℕ) {end : ℕ} → P ≤ 64 → 256 ≡ length sums → end ≡ sixteens P → (end ≤ length sums) × (end ≡ length (take end sums))
sums-front {P} sums {end} few long e =
    let most : end ≤ length sums = omega (arith, e, long, sixteens-most P few) in
    (most, omega (arith, most, length-take end sums))

module _ {P : ℕ} {ws : List ℕ} where
  pub four-few : P ≤ 64 → Weighed P ws → (length ws ≤ 64) × (whole_weight ws ≤ 1024)
  four-few few W = (omega (arith, W.one_each), W.light)

  pub lookups_laid : {logs : List Float} (sums : List ℕ) {end : ℕ} → Weighed P ws → Logs logs → (256 ≡ length sums) × Fours ws (take (sixteens (length ws)) sums)
      → end ≡ sixteens P → Lookups ws logs (take end sums)
  lookups_laid sums {end} W lent (long, fours) e =
      record {
        logs_lent = lent;
        sums_lent = subst (λ (n : ℕ). Fours ws (take n sums)) (ap sixteens W.one_each ∙ sym e) fours;
        sums_few = omega (arith, long, length-take end sums);
      }

-- ---- a choice

-- the pattern that a number takes is one of the table
pub taken-below : {P n : ℕ} {D C Q : List ℕ} {pile : Pile} (L : Lent P n D C Q pile) (ws : List ℕ) (c r : ℕ) {p : ℕ} → Some p ≡ taken ws (get_or D c 0) r → p < P
taken-below {P} {n} {D} L ws c r {p} e = bit_below (get_or D c 0) P p (L.safe.fit.words c) (taken_in ws (get_or D c 0) r p (sym e)).0

-- a number modulo the weight sum is below it
pub drawn-below : (r : ℕ) {sum total : ℕ} → sum ≡ total → 0 < total → r % sum < total
drawn-below r {sum} e h = subst (λ (t : ℕ). r % sum < t) e (mod-lt r (omega (arith, e)))

-- with the laying of a forbid that keeps it the choice is made
pub chosen_is : (i : Given) (c r : ℕ) (s : State Beside) {s' : State Beside} {sum p k : ℕ} → sum ≡ weight_sum i.weights (get_or s.domains c 0)
    → Some p ≡ taken i.weights (get_or s.domains c 0) (r % sum) → (k ≡ 0 → ⊥) → s' ≡ laid i (asking c p k) s
    → s' ≡ chosen i c (taken i.weights (get_or s.domains c 0) (r % weight_sum i.weights (get_or s.domains c 0))) s
unfolding laid asked chosen
chosen_is i c r s is e z f =
    (rw (ne_eqb _ 0 z) at f) ∙ ap (λ (o : Option ℕ). chosen i c o s) (e ∙ ap (λ (m : ℕ). taken i.weights (get_or s.domains c 0) (r % m)) is)

-- ---- whether every cell has one pattern; k is how many the cell of this turn has

module _ (l : List ℕ) {R : Bool} {i k : ℕ} where
  pub decided-turn : i < length l → k ≡ how_many 64 (get_or l i 0) → k ≡ 1 → decided (drop i l) ≡ R → decided (drop (i + 1) l) ≡ R
  unfolding decided
  decided-turn h e z inv = every-turn (λ w. eqb (how_many 64 w) 1) l h refl (eq-eqb _ 1 (sym e ∙ z)) inv

  pub decided-stop : i < length l → k ≡ how_many 64 (get_or l i 0) → (k ≡ 1 → ⊥) → decided (drop i l) ≡ R → false ≡ R
  unfolding decided
  decided-stop h e z inv = every-stop (λ w. eqb (how_many 64 w) 1) l h refl (ne_eqb _ 1 (λ f. z (e ∙ f))) inv

pub decided-end : (l : List ℕ) {R : Bool} {i : ℕ} → length l ≤ i → decided (drop i l) ≡ R → true ≡ R
unfolding decided
decided-end l h inv = every-end (λ w. eqb (how_many 64 w) 1) l h inv

-- ---- a turn; o is what was observed of the slices

module _ (i : Given) (words : List ℕ) (used : ℕ) (s : State Beside) {n m : ℕ} {o : Observed}
    (e : o ≡ observe (notes_in n i.noise s.domains s.beside.floats s.beside.marks m)) (all : n ≡ cells i.grid) (masked : m ≡ mask i.weights) where
  pub observed-sight : sight_of o ≡ sighted i s
  unfolding sighted notes_of
  observed-sight = rw (e, all, masked)

  cell-sight : {c : ℕ} {f : Float} → o ≡ Some (sight c f) → sighted i s ≡ Some (record { cell = c; entropy = f })
  unfolding sight_of
  cell-sight q = sym observed-sight ∙ ap sight_of q

  -- the cell that is observed is one of the grid, and weighs something
  pub cell-inside : {c : ℕ} {f : Float} → o ≡ Some (sight c f) → c < length s.domains
  unfolding sighted notes_of
  cell-inside q = (sight-counts (notes_of i s) _ (cell-sight q)).0

  pub cell-weight : {c : ℕ} {f : Float} → o ≡ Some (sight c f) → 0 < weight_sum i.weights (get_or s.domains c 0)
  unfolding sighted notes_of
  cell-weight {c} q = valid-weight i.weights (get_or (notes_of i s).counts c 0) (get_or s.domains c 0) (sight-counts (notes_of i s) _ (cell-sight q)).1

  module _ (whole : s.empty ≡ false) where
    turn-sight : {q : Option Sight} → sighted i s ≡ q → seen i words used s q ≡ turn i words used s
    unfolding turn
    turn-sight k = rw (whole, k)

    pub turn-still : o ≡ None → {end : ℕ} → end ≡ cond (decided s.domains) 0 1 → Turn.over (ended end used s.domains) ≡ turn i words used s
    unfolding seen still sight_of
    turn-still q d = rw d (turn-sight (sym observed-sight ∙ ap sight_of q))

    pub turn-paused : {c : ℕ} {f : Float} → o ≡ Some (sight c f) → length words ≤ used → Turn.over (ended 2 used s.domains) ≡ turn i words used s
    unfolding seen drawn draw
    turn-paused q h = (rw (le-ltb used (length words) h) at (turn-sight (cell-sight q)))

    turn-chosen : {c : ℕ} {f : Float} {s' : State Beside} → o ≡ Some (sight c f) → used < length words
        → s' ≡ chosen i c (taken i.weights (get_or s.domains c 0) (get_or words used 0 % weight_sum i.weights (get_or s.domains c 0))) s
        → Turn.on (used + 1) s' ≡ turn i words used s
    unfolding seen drawn draw
    turn-chosen q h k = ap (Turn.on (used + 1)) k ∙ (rw (lt-ltb used (length words) h) at (turn-sight (cell-sight q)))

    -- from a state that is the same
    pub turn-from : {s₁ : State Beside} → s₁ ≡ s → {c : ℕ} {f : Float} {s' : State Beside} → o ≡ Some (sight c f) → used < length words
        → s' ≡ chosen i c (taken i.weights (get_or s₁.domains c 0) (get_or words used 0 % weight_sum i.weights (get_or s₁.domains c 0))) s₁
        → Turn.on (used + 1) s' ≡ turn i words used s
    turn-from e {c} q h k =
        turn-chosen q h
        (k ∙ ap (λ (r : State Beside). chosen i c (taken i.weights (get_or r.domains c 0) (get_or words used 0 % weight_sum i.weights (get_or r.domains c 0))) r) e)
