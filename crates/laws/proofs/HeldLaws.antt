-- One note for each cell decides: a note that no longer counts at a state of a run counts at no later one, and one that still counts is the cell's note
-- there, for a new one is written only after a weighted pattern went from the cell. Follows docs/RULES.md, "Run" and "Propagation". Assumes nothing.
use mathlib.Core.Bool.{Bool, true, false, cond}
use mathlib.Core.List.{List, [], ◌∷◌, ◌++◌, append-nil}
use mathlib.Core.Logic.{◌⊎◌, inl, inr}
use mathlib.Core.Path.{◌≡◌, refl, sym, ap, ◌∙◌, subst}
use Prim.Native.Nat.{ℕ, zero, suc, ◌+◌, ◌-◌, ◌*◌, ◌^◌, ◌≤◌, ◌<◌}
use native.Mathlib.Decide.{ℕ_discrete, dec_lt}
use native.Mathlib.Nat.{le_refl, mul-le-mul}
use native.Mathlib.Omega.{arith}
use lib.Bits.{bit_and}
use lib.Ieee.{Float, nan}
use lib.ListN.{length, get_or, set, take, drop, replicate, length-set, length-append, length-replicate, length-take, take-append-drop, get_or-append}
use lib.Seq.{get_or-set_other, get_or-take, get_or-drop, take-append_seam, take-append-le}
use Rattle.words.specs.Words.{bit, how_many}
use Rattle.adjacency.specs.Accepted.{Accepted}
use Rattle.adjacency.specs.Weights.{weight_of, weight_sum, weighted, mask}
use Rattle.grid.specs.Grid.{cells}
use Rattle.logarithms.specs.Entropy.{entropy}
use Rattle.notes.specs.Notes.{note}
use Rattle.consistency.specs.Domains.{possible, removed}
use Rattle.consistency.specs.Worklist.{Removal, State, forbids}
use Rattle.consistency.specs.Start.{others}
use Rattle.consistency.specs.Safe.{Inside}
use Rattle.notes.specs.Beside.{Beside, weighted_in, lessened_by, lessened, proposes, noted, proposing, kept, unmarked}
use Rattle.choice.specs.Observer.{note_at, counts_at}
use Rattle.forbids.specs.declared.Forbid.{Forbid}
use Rattle.course.specs.Run.{Given, begun, reduced_by, asked, laid, laid_all, notes_of, Turn, turn}
use Rattle.forbids.specs.Forbids.{Placed}
use Rattle.course.specs.Course.{Lawful, Reached, forbade, chose, Visited, among, after, still_counts}
use Rattle.loops.proofs.SumLaws.{sum_less}
use Rattle.words.proofs.BitLaws.{bit-and}
use Rattle.adjacency.proofs.WeightLaws.{weight-inside, weighted-true, weight-mask}
use Rattle.consistency.proofs.RemovalLaws.{others-inside}
use Rattle.consistency.proofs.Keep.{removed-less, safe-forbids}
use Rattle.consistency.proofs.Settled.{Ready}
use Rattle.consistency.proofs.SettledLaws.{safe-beside}
use Rattle.notes.proofs.BesideLaws.{proposes-weight, weighted_64}
use Rattle.choice.proofs.ObserverLaws.{valid-counts}
use Rattle.course.proofs.TurnLaws.{turn_on}
use Rattle.course.proofs.StateLaws.{asked-inside, reduced_by-settled, forbade-settled, reached-stands, reached-ready}
use Rattle.forbids.proofs.ForbidLaws.{placed-parts}
use Rattle.course.proofs.ForbidsLaws.{laid_all-append}
use Rattle.consistency.proofs.KeptLaws.{Endures, endures_forbids, endures_propagated}
use Rattle.laws.proofs.StaleLaws.{weighted-sub, removed-le, Above, reached-above, stale}

-- ---- a weighted pattern goes

-- fewer weighted patterns where one of them goes
weighted-less : (k v w m p : ℕ) → p < k → ((q : ℕ) → bit v q ≤ bit w q) → bit v p ≡ 0 → bit w p ≡ 1 → bit m p ≡ 1 → how_many k (bit_and v m) < how_many k (bit_and w m)
unfolding how_many
weighted-less k v w m p l h gone was in-mask =
    sum_less k (bit (bit_and v m)) (bit (bit_and w m)) p l
    (λ q _. rw (bit-and v m q, bit-and w m q) (mul-le-mul (h q) (le_refl (bit m q))))
    (rw (bit-and v m p, bit-and w m p, gone, was, in-mask) (omega arith))

removed-weighted : (ws D : List ℕ) (c p : ℕ) → possible D c p ≡ 1 → weighted ws p ≡ true → weighted_in ws (get_or (removed D c p) c 0) < weighted_in ws (get_or D c 0)
removed-weighted ws D c p h e =
    let weight = weighted-true ws p e in
    weighted-less (length ws) (get_or (removed D c p) c 0) (get_or D c 0) (mask ws) p (weight-inside ws p weight) (removed-le D c p c) (removed-less D c p h).gone h
    (weight-mask ws p weight)

-- ---- since an earlier state

-- of n cells: no pattern is restored, and each has the note that it had, or fewer weighted patterns
record Since (ws : List ℕ) (n : ℕ) (D₀ : List ℕ) (x₀ : Beside) (D : List ℕ) (x : Beside) : Type 0 where
  part : (c p : ℕ) → possible D c p ≤ possible D₀ c p
  long : length x.marks ≡ 2 * n
  held : (c : ℕ) → c < n
      → ((get_or x.marks c 0 ≡ get_or x₀.marks c 0) × (get_or x.floats (n + c) nan ≡ get_or x₀.floats (n + c) nan))
      ⊎ (weighted_in ws (get_or D c 0) < weighted_in ws (get_or D₀ c 0))

module _ (ws : List ℕ) (n : ℕ) (D₀ : List ℕ) (x₀ : Beside) where
  -- the note of cell c is the same
  abbrev Same : ℕ → Beside → Type 0
  Same c x = (get_or x.marks c 0 ≡ get_or x₀.marks c 0) × (get_or x.floats (n + c) nan ≡ get_or x₀.floats (n + c) nan)

  since_removed : (u : Removal) (D : List ℕ) (x : Beside) → Since ws n D₀ x₀ D x → Since ws n D₀ x₀ (removed D u.cell u.pattern) x
  since_removed u D x S = record { part = λ c p. omega (arith, S.part c p, removed-le D u.cell u.pattern c p); long = S.long; held = λ c h. at c (S.held c h) }
    where
      E : List ℕ
      E = removed D u.cell u.pattern

      at : (c : ℕ) → Same c x ⊎ (weighted_in ws (get_or D c 0) < weighted_in ws (get_or D₀ c 0)) → Same c x ⊎ (weighted_in ws (get_or E c 0) < weighted_in ws (get_or D₀ c 0))
      at c (inl same) = inl same
      at c (inr less) = inr (omega (arith, less, weighted-sub (length ws) (get_or E c 0) (get_or D c 0) (mask ws) (removed-le D u.cell u.pattern c)))

  since_lessened : (w c : ℕ) (D : List ℕ) (x : Beside) → c < n → Since ws n D₀ x₀ D x → Since ws n D₀ x₀ D (lessened_by w c x)
  unfolding lessened_by
  since_lessened zero c D x l S = S
  since_lessened (suc w) c D x l S = record { part = S.part; long = S.long; held = λ m h. at m (S.held m h) }
    where
      at : (m : ℕ) → Same m x ⊎ (weighted_in ws (get_or D m 0) < weighted_in ws (get_or D₀ m 0))
          → Same m (lessened_by (suc w) c x) ⊎ (weighted_in ws (get_or D m 0) < weighted_in ws (get_or D₀ m 0))
      at m (inl (count, value)) = inl (count, get_or-set_other x.floats c (n + m) _ nan (λ y. omega (arith, l, y)) ∙ value)
      at m (inr less) = inr less

  module _ (noise : List ℕ) (D : List ℕ) (x : Beside) (S : Since ws n D₀ x₀ D x) (c : ℕ) where
    since_noted : (e : Float) (k : ℕ) → weighted_in ws (get_or D c 0) < weighted_in ws (get_or D₀ c 0) → Since ws n D₀ x₀ D (noted noise n c e k x)
    unfolding noted
    since_noted e k fewer = record { part = S.part; long = simp length-set S.long; held = λ m h. at m h (ℕ_discrete m c) (S.held m h) }
      where
        at : (m : ℕ) → m < n → Dec (m ≡ c) → Same m x ⊎ (weighted_in ws (get_or D m 0) < weighted_in ws (get_or D₀ m 0))
            → Same m (noted noise n c e k x) ⊎ (weighted_in ws (get_or D m 0) < weighted_in ws (get_or D₀ m 0))
        at m h (yes z) s = inr (subst (λ (j : ℕ). weighted_in ws (get_or D j 0) < weighted_in ws (get_or D₀ j 0)) (sym z) fewer)
        at m h (no z) (inr less) = inr less
        at m h (no z) (inl (count, value)) =
            inl (
              get_or-set_other (set x.marks c _) (n + c) m 1 0 (λ y. omega (arith, h, y)) ∙ get_or-set_other x.marks c m _ 0 z ∙ count,
              get_or-set_other x.floats (n + c) (n + m) _ nan (λ y. z (omega (arith, y))) ∙ value,
            )

    since_proposing : (p : ℕ) → (weighted ws p ≡ true → weighted_in ws (get_or D c 0) < weighted_in ws (get_or D₀ c 0))
        → Since ws n D₀ x₀ D (proposing ws noise n c p (get_or D c 0) x)
    unfolding proposing
    since_proposing p fewer = go (proposes ws p (get_or D c 0)) refl
      where
        e : Float
        e = entropy (weight_sum ws (get_or D c 0)) (get_or x.floats c nan)

        go : (b : Bool) → proposes ws p (get_or D c 0) ≡ b → Since ws n D₀ x₀ D (cond b (noted noise n c e (weighted_in ws (get_or D c 0)) x) x)
        go true t = since_noted e (weighted_in ws (get_or D c 0)) (fewer (proposes-weight ws p (get_or D c 0) t).0)
        go false t = S

  since_asked : (P : ℕ) → Endures P n (lessened ws) (Since ws n D₀ x₀)
  unfolding lessened
  since_asked P u D x l h S = since_lessened (weight_of ws u.pattern) u.cell _ x l (since_removed u D x S)

  since_kept : (P : ℕ) (noise : List ℕ) → Endures P n (kept ws noise n) (Since ws n D₀ x₀)
  unfolding kept lessened
  since_kept P noise u D x l h S =
      since_proposing noise (removed D u.cell u.pattern) _ (since_lessened (weight_of ws u.pattern) u.cell _ x l (since_removed u D x S)) u.cell u.pattern
      (λ e.
      omega
      (arith, removed-weighted ws D u.cell u.pattern h e, weighted-sub (length ws) (get_or D u.cell 0) (get_or D₀ u.cell 0) (mask ws) (S.part u.cell)))

  since_renewed : (D : List ℕ) (x : Beside) → Since ws n D₀ x₀ D x → Since ws n D₀ x₀ D (unmarked n x)
  unfolding unmarked
  since_renewed D x S =
      record {
        part = S.part;
        long = omega (arith, S.long, length-append (take n x.marks) zeros, length-take n x.marks, length-replicate {A = ℕ} (length x.marks - n) 0);
        held = λ c h. at c h (S.held c h);
      }
    where
      zeros : List ℕ
      zeros = replicate (length x.marks - n) 0

      at : (c : ℕ) → c < n → Same c x ⊎ (weighted_in ws (get_or D c 0) < weighted_in ws (get_or D₀ c 0))
          → Same c (unmarked n x) ⊎ (weighted_in ws (get_or D c 0) < weighted_in ws (get_or D₀ c 0))
      at c h (inl (count, value)) =
          inl (get_or-append (take n x.marks) zeros 0 c (omega (arith, h, S.long, length-take n x.marks)) ∙ get_or-take n x.marks c 0 h ∙ count, value)
      at c h (inr less) = inr less

-- ---- along a course

-- since the state s₀, at s
abbrev Later : Given → State Beside → State Beside → Type 0
Later i s₀ s = Since i.weights (cells i.grid) s₀.domains s₀.beside s.domains s.beside

module _ (i : Given) (A : Accepted i.table) (s₀ : State Beside) where
  since_reduced : (us : List Removal) (s : State Beside) → Inside i.table.count (cells i.grid) us → Ready i.table i.grid s → Later i s₀ s
      → Later i s₀ (reduced_by i us s)
  unfolding reduced_by
  since_reduced us s h R S =
      let P = i.table.count in
      let n = cells i.grid in
      let D₀ = s₀.domains in
      let x₀ = s₀.beside in
      let r = forbids P (lessened i.weights) us s in
      endures_propagated i.table i.grid A (kept i.weights i.noise n) (Since i.weights n D₀ x₀) (since_kept i.weights n D₀ x₀ P i.noise) (n * P) _
      (safe-beside r (unmarked n r.beside) P n (n * P) (safe-forbids P n (n * P) (lessened i.weights) us s h R.safe))
      (since_renewed i.weights n D₀ x₀ r.domains r.beside
      (endures_forbids P n (n * P) (lessened i.weights) (Since i.weights n D₀ x₀) (since_asked i.weights n D₀ x₀ P) us s h S))

  -- through forbids, of which the one that empties a cell is the last that is laid
  since_laid : (fs : List Forbid) (s : State Beside) → Placed i.table.count (cells i.grid) fs → (s.empty ≡ false → Ready i.table i.grid s) → Later i s₀ s
      → Later i s₀ (laid_all i fs s)
  unfolding laid_all laid
  since_laid [] s h R S = S
  since_laid (f ∷ fs) s h R S =
      let us = asked i.table.count f in
      let inside = asked-inside i.table.count (cells i.grid) f h.0 h.1 in
      either s.empty refl (λ e. since_laid fs (laid i f s) h.2 (reduced_by-settled i A us s inside (R e)).ready (since_reduced us s inside (R e) S))
    where
      either : (b : Bool) → s.empty ≡ b → (s.empty ≡ false → Later i s₀ (laid_all i fs (laid i f s))) → Later i s₀ (cond b s (laid_all i fs (laid i f s)))
      either true e k = S
      either false e k = k e

-- through a turn
since_chose : (i : Given) (fs : List Forbid) → Lawful i fs → (words : List ℕ) (s₀ : State Beside) {k used more : ℕ} {s s' : State Beside} → Reached i fs words k used s
    → turn i words used s ≡ Turn.on more s' → Later i s₀ s → Later i s₀ s'
since_chose i fs L words s₀ {used = used} {s = s} r e S =
    let c = turn_on i words used s e in
    let inside = others-inside i.table.count (cells i.grid) c.cell c.pattern (omega (arith, c.inside, (reached-stands i fs L r).settled.safe.fit.sized)) in
    rw c.made (since_reduced i L.accepted s₀ (others i.table.count c.cell c.pattern) s inside (reached-ready i fs L r c.whole) S)

-- ---- the states of a run

module _ (i : Given) (fs : List Forbid) (words : List ℕ) where
  -- the start, where the first notes are, is the first
  pub visited-begun : Visited i fs words 0 (begun i)
  unfolding laid_all
  visited-begun = among [] fs refl

  visited-above : {n : ℕ} {s : State Beside} → Visited i fs words n s → Above i.weights (cells i.grid) s.domains s.beside
  visited-above (among gs hs e) = reached-above i {fs = gs} {words = words} forbade
  visited-above (after r) = reached-above i r

-- the first forbids and those that are left
module _ (i : Given) (fs : List Forbid) (L : Lawful i fs) (gs hs : List Forbid) (e : gs ++ hs ≡ fs) where
  parts : Placed i.table.count (cells i.grid) gs × Placed i.table.count (cells i.grid) hs
  parts = placed-parts i.table.count (cells i.grid) gs hs (rw e L.placed)

  lawful-first : Lawful i gs
  lawful-first = record { accepted = L.accepted; weighed = L.weighed; placed = parts.0 }

-- of two first parts the shorter is a first part of the longer
first-first : {fs : List Forbid} (gs hs gs' hs' : List Forbid) → gs ++ hs ≡ fs → gs' ++ hs' ≡ fs → length gs ≤ length gs' → gs ++ drop (length gs) gs' ≡ gs'
first-first gs hs gs' hs' e e' l =
    ap (λ (ks : List Forbid). ks ++ drop (length gs) gs')
    (sym (take-append_seam gs hs) ∙ ap (take (length gs)) (e ∙ sym e') ∙ take-append-le (length gs) gs' hs' l)
    ∙ take-append-drop (length gs) gs'

-- the words used and the state where a turn goes on
used_in : Turn → ℕ
used_in (Turn.over e) = 0
used_in (Turn.on used s) = used

state_or : State Beside → Turn → State Beside
state_or d (Turn.over e) = d
state_or d (Turn.on used s) = s

module _ (i : Given) (fs : List Forbid) (words : List ℕ) where
  -- so many choices lead to one state
  reached-one : {k used used' : ℕ} {s s' : State Beside} → Reached i fs words k used s → Reached i fs words k used' s' → (used ≡ used') × (s ≡ s')
  unfolding used_in state_or
  reached-one forbade forbade = (refl, refl)
  reached-one (chose {s' = b} r e) (chose r' e') =
      let (x, y) = reached-one r r' in
      let same = sym e ∙ (λ j. turn i words (x j) (y j)) ∙ e' in
      (ap used_in same, ap (state_or b) same)

module _ (i : Given) (fs : List Forbid) (L : Lawful i fs) (words : List ℕ) where
  visited-words : {n : ℕ} {s : State Beside} → Visited i fs words n s → (c : ℕ) → get_or s.domains c 0 < 2 ^ i.table.count
  visited-words (among gs hs e) = (forbade-settled i gs (lawful-first i fs L gs hs e)).safe.fit.words
  visited-words (after r) = (reached-stands i fs L r).settled.safe.fit.words

  since_itself : {n : ℕ} {s : State Beside} → Visited i fs words n s → Later i s s
  since_itself v = record { part = λ c p. le_refl _; long = (visited-above i fs words v).long; held = λ c h. inl (refl, refl) }

  -- through the forbids that are left
  since_forbade : (gs hs : List Forbid) → gs ++ hs ≡ fs → Later i (laid_all i gs (begun i)) (laid_all i fs (begun i))
  since_forbade gs hs e =
      let s = laid_all i gs (begun i) in
      subst (Later i s) (sym (laid_all-append i gs hs (begun i)) ∙ ap (λ (ks : List Forbid). laid_all i ks (begun i)) e)
      (since_laid i L.accepted s hs s (parts i fs L gs hs e).1 (forbade-settled i gs (lawful-first i fs L gs hs e)).ready (since_itself (among gs hs e)))

  -- through turns, from before all of them
  since_turns : {k used : ℕ} (s₀ : State Beside) {s : State Beside} → Later i s₀ (laid_all i fs (begun i)) → Reached i fs words k used s → Later i s₀ s
  since_turns s₀ S forbade = S
  since_turns s₀ S (chose r e) = since_chose i fs L words s₀ r e (since_turns s₀ S r)

  -- and from after some of them
  since_equal : {k used k' used' : ℕ} {s s' : State Beside} → Reached i fs words k used s → Reached i fs words k' used' s' → k ≡ k' → Later i s s'
  since_equal {used = used} {s = s} r r' z = subst (Later i s) (reached-one i fs words (subst (λ (j : ℕ). Reached i fs words j used s) z r) r').1 (since_itself (after r))

  since_reached : {k used k' used' : ℕ} {s s' : State Beside} → Reached i fs words k used s → Reached i fs words k' used' s' → k ≤ k' → Later i s s'
  since_reached r forbade h = since_equal r forbade (omega (arith, h))
  since_reached {k} {s = s} r (chose {k = k''} {used = u} {more = more} {s = a} {s' = b} r' e) h =
      go (dec_lt k (suc k'')) (λ l. since_chose i fs L words s r' e (since_reached r r' l))
    where
      go : Dec (k < suc k'') → (k ≤ k'' → Later i s b) → Later i s b
      go (yes l) f = f (omega (arith, l))
      go (no l) f = since_equal r (chose {k = k''} {used = u} {more = more} {s = a} {s' = b} r' e) (omega (arith, h, l))

module _ (i : Given) (fs : List Forbid) (L : Lawful i fs) (words : List ℕ) where
  since_among : (gs hs gs' hs' : List Forbid) → gs ++ hs ≡ fs → gs' ++ hs' ≡ fs → length gs ≤ length gs' → Later i (laid_all i gs (begun i)) (laid_all i gs' (begun i))
  since_among gs hs gs' hs' e e' l = since_forbade i gs' (lawful-first i fs L gs' hs' e') words gs (drop (length gs) gs') (first-first gs hs gs' hs' e e' l)

  since_visited : {n n' : ℕ} {s s' : State Beside} → Visited i fs words n s → Visited i fs words n' s' → n ≤ n' → Later i s s'
  since_visited (among gs hs e) (among gs' hs' e') l = since_among gs hs gs' hs' e e' l
  since_visited (among gs hs e) (after r') l = since_turns i fs L words (laid_all i gs (begun i)) (since_forbade i fs L words gs hs e) r'
  since_visited (after forbade) (among gs' hs' e') l = since_among fs [] gs' hs' (append-nil fs) e' (omega (arith, l))
  since_visited (after (chose r q)) (among gs' hs' e') l = absurd (omega (arith, l, length-append gs' hs', ap length e'))
  since_visited (after r) (after r') l = since_reached i fs L words r r' (omega (arith, l))

-- ---- an old note

-- where a note is asked whether it still counts at its own state, that is what the observer asks
pub counts-itself : (i : Given) (c : ℕ) (s : State Beside) → still_counts i c s s ≡ counts_at (notes_of i s) c
unfolding notes_of
counts-itself i c s = refl

module _ (i : Given) (fs : List Forbid) (L : Lawful i fs) (words : List ℕ) {k k' : ℕ} {s s' : State Beside}
    (v : Visited i fs words k s) (v' : Visited i fs words k' s') (later : k ≤ k') where
  since : Later i s s'
  since = since_visited i fs L words v v' later

  -- a cell's weighted count never rises
  pub weighted-falls : (c : ℕ) → weighted_in i.weights (get_or s'.domains c 0) ≤ weighted_in i.weights (get_or s.domains c 0)
  weighted-falls c = weighted-sub (length i.weights) (get_or s'.domains c 0) (get_or s.domains c 0) (mask i.weights) (since.part c)

  -- a note that still counts at a later state is the cell's note there
  pub note-held : (c : ℕ) → c < cells i.grid → still_counts i c s s' ≡ true → note_at (notes_of i s') c ≡ note_at (notes_of i s) c
  unfolding notes_of
  note-held c h e = go (since.held c h)
    where
      n : ℕ
      n = cells i.grid

      count : ℕ
      count = get_or (take n s.beside.marks) c 0

      go : Same i.weights n s.domains s.beside c s'.beside ⊎ (weighted_in i.weights (get_or s'.domains c 0) < weighted_in i.weights (get_or s.domains c 0))
          → note_at (notes_of i s') c ≡ note_at (notes_of i s) c
      go (inl (same, value)) =
          let counted = get_or-take n s'.beside.marks c 0 h ∙ same ∙ sym (get_or-take n s.beside.marks c 0 h) in
          let measured = get_or-drop n s'.beside.floats c nan ∙ value ∙ sym (get_or-drop n s.beside.floats c nan) in
          λ j. note (measured j) (get_or i.noise c 0) (counted j)
      go (inr less) =
          let C = valid-counts count (get_or s'.domains c 0) (mask i.weights) e in
          let is = get_or-take n s.beside.marks c 0 h in
          absurd
          (omega (
            arith,
            less,
            C.weighted,
            is,
            weighted_64 L.weighed L.accepted.few (get_or s'.domains c 0) (visited-words i fs L words v' c),
            (visited-above i fs words v).above c h (λ z. C.noted (is ∙ z)),
          ))

  -- a note that does not count at its own state or a later one counts at none after that
  pub note_stale : {k'' : ℕ} {s'' : State Beside} → Visited i fs words k'' s'' → k' ≤ k'' → (c : ℕ) → c < cells i.grid → still_counts i c s s' ≡ false
      → still_counts i c s s'' ≡ false
  unfolding notes_of
  note_stale {s'' = s''} v'' l c h =
      stale L.weighed L.accepted.few _ (get_or s''.domains c 0) (get_or s'.domains c 0) (visited-words i fs L words v' c)
      ((since_visited i fs L words v' v'' l).part c)
      (rw (get_or-take (cells i.grid) s.beside.marks c 0 h) (λ z. omega (arith, weighted-falls c, (visited-above i fs words v).above c h z)))
