-- Laws of the observer: a note that counts, the scan cell by cell, and what it finds: a cell whose note counts and that no other such cell beats,
-- ties going to the lower cell; nothing exactly where no note counts. Follows docs/RULES.md, "Run".
-- Assumes nothing.
use mathlib.Core.Bool.{Bool, true, false, not, cond, and-false, true≢false}
use mathlib.Core.List.{List}
use mathlib.Core.Path.{◌≡◌, refl, sym, ap, ◌∙◌}
use Prim.Native.Nat.{ℕ, zero, suc, ◌+◌, ◌-◌, ◌≤◌, ◌<◌}
use native.Mathlib.Decide.{dec_lt, ℕ_discrete}
use native.Mathlib.Nat.{zero-add, le_refl, le_antisymm, le_of_suc-le-suc, lt_of_not-le}
use native.Mathlib.Omega.{arith}
use lib.Bits.{bit_and}
use lib.Dec.{eqb}
use lib.Ieee.{Float, nan, eq}
use lib.ListN.{length, get_or, take, drop, length-take, length-drop, get_or-eq_default}
use lib.Seq.{get_or-drop, get_or-take}
use borrow.Author.Count.{below_more}
use borrow.Author.Tests.{leb-true, eqb-true, eqb-false, not-true, le-ltb}
use Rattle.words.specs.Words.{how_many}
use Rattle.order.specs.Numbers.{Number, Numbers}
use Rattle.order.specs.Order.{beats}
use Rattle.adjacency.specs.Weights.{weight_sum, mask}
use Rattle.notes.specs.Notes.{note_of}
use Rattle.std.specs.Prelude.{Some, None}
use Rattle.std.proofs.lemmas.Option.{same_Some}
use Rattle.choice.specs.declared.inner.Sight.{Sight}
use Rattle.choice.specs.Observer.{Notes, notes_in, Lengths, valid, note_at, entropy_at, counts_at, better_than, Best, At, Empty, join, candidate, best_in, observed_as, observe, Observed, sight}
use Rattle.loops.proofs.TestLaws.{both}
use Rattle.words.proofs.CountLaws.{many_none}
use Rattle.order.proofs.OrderLaws.{lt_irreflexive}
use Rattle.order.proofs.BeatLaws.{beats_cotransitive, beats_asymmetric}
use Rattle.adjacency.proofs.WeightLaws.{zero-weight_sum}

-- ---- a note that counts

pub record Counts (count w mask : ℕ) : Type 0 where
  pub noted : count ≡ 0 → ⊥
  pub weighted : how_many 64 (bit_and w mask) ≡ count
  pub several : 2 ≤ how_many 64 w

pub valid-counts : (count w mask : ℕ) → valid count w mask ≡ true → Counts count w mask
unfolding valid
valid-counts count w mask e =
    let (a, bc) = both (not (eqb count 0)) _ e in
    let (b, c) = both (eqb (how_many 64 (bit_and w mask)) count) _ bc in
    record { noted = eqb-false count 0 (not-true _ a); weighted = eqb-true _ _ b; several = leb-true _ _ c }

-- a cell whose note counts has weight to choose by
pub valid-weight : (ws : List ℕ) (count w : ℕ) → valid count w (mask ws) ≡ true → 0 < weight_sum ws w
valid-weight ws count w e =
    let h = valid-counts count w (mask ws) e in
    elim (ℕ_discrete (weight_sum ws w) 0) [
      | yes z ↦ absurd (h.noted (sym h.weighted ∙ ap (how_many 64) (zero-weight_sum ws w z) ∙ many_none 64))
      | no n ↦ omega arith
    ]

-- ---- the scan, cell by cell

pub join-empty : (b : Best) → join b Empty ≡ b
unfolding join
join-empty Empty = refl
join-empty (At c n) = refl

-- the observer's note of a cell is the one that is kept
pub note_at-note_of : {cells c : ℕ} (noise domains : List ℕ) (floats : List Float) (marks : List ℕ) (weighted : ℕ) → c < cells
    → note_at (notes_in cells noise domains floats marks weighted) c ≡ note_of noise cells c floats marks
note_at-note_of {cells} {c} noise domains floats marks weighted h = rw (get_or-take cells marks c 0 h, get_or-drop cells floats c nan)

module _ (v : Notes) (start : ℕ) where
  pub scan-start : Empty ≡ best_in v start (start - start)
  unfolding best_in
  scan-start = let z : start - start ≡ 0 = omega arith in rw z

  pub scan-turn : {c : ℕ} {best r : Best} → start ≤ c → best ≡ best_in v start (c - start) → r ≡ join best (candidate v c) → r ≡ best_in v start (c + 1 - start)
  unfolding best_in
  scan-turn {c} h e q =
      let a : c + 1 - start ≡ suc (c - start) = omega arith in
      let b : start + (c - start) ≡ c = omega arith in
      rw (a, b, ← e) q

-- ---- what the scan finds

-- cell c comes before cell d: its note is better
abbrev pub ahead : Notes → ℕ → ℕ → Bool
ahead v c d = better_than (note_at v c) (note_at v d)

-- cell j gives way to cell c: where its note counts it is not ahead of c, and c is ahead of it if j is the lower cell
abbrev pub Yields : Notes → ℕ → ℕ → Type 0
Yields v c j = counts_at v j ≡ true → (ahead v j c ≡ false) × (j < c → ahead v c j ≡ true)

-- no note that counts has a NaN for its entropy
abbrev pub Ordered : Notes → Type 0
Ordered v = (c : ℕ) → counts_at v c ≡ true → Number (entropy_at v c)

pub ordered : (v : Notes) → Numbers v.entropies → length v.counts ≤ length v.entropies → Ordered v
ordered v numbers l c e =
    elim (dec_lt c (length v.entropies)) [
      | yes h ↦ numbers.at c h
      | no n ↦ absurd ((valid-counts (get_or v.counts c 0) (get_or v.domains c 0) v.mask e).noted (get_or-eq_default v.counts 0 (omega arith)))
    ]

-- what the run keeps has an entropy for each count
pub lengths_each : {cells : ℕ} {noise domains marks : List ℕ} {floats : List Float} → Lengths cells noise domains floats marks → length (take cells marks) ≤ length (drop cells floats)
lengths_each {cells} {marks = marks} {floats = floats} each = omega (arith, each.values, length-take cells marks, length-drop cells floats)

-- the best of the first k cells is cell c
record Picked (v : Notes) (k c : ℕ) : Type 0 where
  inside : c < k
  counts : counts_at v c ≡ true
  least : Ordered v → (j : ℕ) → j < k → Yields v c j

-- the best of the first k cells: nothing where no note counts, or a cell with its own note
abbrev Scanned : Notes → ℕ → Best → Type 0
Scanned v k Empty = (j : ℕ) → j < k → counts_at v j ≡ false
Scanned v k (At c n) = (n ≡ note_at v c) × Picked v k c

-- nothing is ahead of itself, the NaN too
ahead-itself : (v : Notes) (c : ℕ) → ahead v c c ≡ false
unfolding beats
ahead-itself v c =
    let noise = (note_at v c).noise in
    rw (lt_irreflexive (entropy_at v c), le-ltb noise noise (le_refl noise)) (and-false (eq (entropy_at v c) (entropy_at v c)))

module _ (v : Notes) (k : ℕ) where
  -- one cell more, after the first k
  yields_more : (c : ℕ) → ((j : ℕ) → j < k → Yields v c j) → Yields v c k → (j : ℕ) → j < suc k → Yields v c j
  yields_more c all here j l = below_more (Yields v c) k all here j (omega arith)

  -- the next cell's note does not count
  picked-passed : {c : ℕ} → counts_at v k ≡ false → Picked v k c → Picked v (suc k) c
  picked-passed {c} e p = record { inside = omega (arith, p.inside); counts = p.counts; least = λ o. yields_more c (p.least o) (λ h. absurd (true≢false (sym h ∙ e))) }

  module _ (counts : counts_at v k ≡ true) where
    itself : Yields v k k
    itself h = (ahead-itself v k, λ l. absurd (omega arith))

    -- it is the first whose note counts
    picked_first : ((j : ℕ) → j < k → counts_at v j ≡ false) → Picked v (suc k) k
    picked_first none = record { inside = omega arith; counts = counts; least = λ o. yields_more k (λ j l h. absurd (true≢false (sym h ∙ none j l))) itself }

    -- it is ahead of the best so far, so of all that give way to that
    picked_better : {c : ℕ} → ahead v k c ≡ true → Picked v k c → Picked v (suc k) k
    picked_better {c} t p = record { inside = omega arith; counts = counts; least = λ o. yields_more k (λ j l h. before o j h (p.least o j l h).0 (ahead v k j) refl) itself }
      where
        before : Ordered v → (j : ℕ) → counts_at v j ≡ true → ahead v j c ≡ false → (s : Bool) → ahead v k j ≡ s → (ahead v j k ≡ false) × (j < k → ahead v k j ≡ true)
        before o j h f true s = (beats_asymmetric _ _ _ _ (o k counts) (o j h) s, λ l. s)
        before o j h f false s = absurd (true≢false (sym t ∙ beats_cotransitive _ _ _ _ _ _ (o k counts) (o j h) (o c p.counts) s f))

    -- it is not
    picked-kept : {c : ℕ} → ahead v k c ≡ false → Picked v k c → Picked v (suc k) c
    picked-kept {c} t p = record { inside = omega (arith, p.inside); counts = p.counts; least = λ o. yields_more c (p.least o) (λ h. (t, λ l. absurd (omega (arith, p.inside)))) }

  scanned_more : (b : Best) → Scanned v k b → (t : Bool) → counts_at v k ≡ t → Scanned v (suc k) (join b (cond t (At k (note_at v k)) Empty))
  unfolding join
  scanned_more Empty s true e = (refl, picked_first e s)
  scanned_more Empty s false e = λ j l. below_more (λ j. counts_at v j ≡ false) k s e j (omega arith)
  scanned_more (At c n) (en, p) true e = rw en (go (ahead v k c) refl)
    where
      go : (t : Bool) → ahead v k c ≡ t → Scanned v (suc k) (cond t (At k (note_at v k)) (At c (note_at v c)))
      go true t = (refl, picked_better e t p)
      go false t = (refl, picked-kept e t p)
  scanned_more (At c n) (en, p) false e = (en, picked-passed e p)

scanned : (v : Notes) (k : ℕ) → Scanned v k (best_in v 0 k)
unfolding best_in candidate
scanned v zero = λ j l. absurd (omega arith)
scanned v (suc k) = rw (zero-add k) (scanned_more v k (best_in v 0 k) (scanned v k) (counts_at v k) refl)

-- ---- what is observed

-- a cell of the grid whose note counts, with its own entropy
pub record Seen (v : Notes) (c : ℕ) (e : Float) : Type 0 where
  pub inside : c < length v.domains
  pub counts : counts_at v c ≡ true
  pub entropy : e ≡ entropy_at v c

module _ (v : Notes) where
  -- by what the best of all cells is
  by_best : (P : Observed → Type 0) → ((b : Best) → Scanned v (length v.domains) b → P (observed_as b)) → P (observe v)
  unfolding observe
  by_best P f = f (best_in v 0 (length v.domains)) (scanned v (length v.domains))

  -- nothing is observed exactly where no note counts
  pub counts-nothing : ((j : ℕ) → j < length v.domains → counts_at v j ≡ false) → observe v ≡ None
  counts-nothing none = by_best (λ o. o ≡ None) go
    where
      go : (b : Best) → Scanned v (length v.domains) b → observed_as b ≡ None
      go Empty s = refl
      go (At c n) (en, p) = absurd (true≢false (sym p.counts ∙ none c p.inside))

  pub nothing-counts : observe v ≡ None → (j : ℕ) → j < length v.domains → counts_at v j ≡ false
  nothing-counts = by_best (λ o. o ≡ None → (j : ℕ) → j < length v.domains → counts_at v j ≡ false) go
    where
      go : (b : Best) → Scanned v (length v.domains) b → observed_as b ≡ None → (j : ℕ) → j < length v.domains → counts_at v j ≡ false
      go Empty s e = s
      go (At c n) s e = let z : ◌≡◌ {A = ℕ} 0 1 = cc in absurd (omega arith)

  module _ {c : ℕ} {e : Float} (is : observe v ≡ Some (sight c e)) where
    found : (e ≡ entropy_at v c) × Picked v (length v.domains) c
    found = by_best (λ o. o ≡ Some (sight c e) → (e ≡ entropy_at v c) × Picked v (length v.domains) c) go is
      where
        go : (b : Best) → Scanned v (length v.domains) b → observed_as b ≡ Some (sight c e) → (e ≡ entropy_at v c) × Picked v (length v.domains) c
        go Empty s q = let z : ◌≡◌ {A = ℕ} 0 1 = cc in absurd (omega arith)
        go (At d n) (en, p) q =
            let same = same_Some (sight d n.entropy) (sight c e) q in
            let a : d ≡ c = ap (λ (x : Sight). x.cell) same in
            let b : n.entropy ≡ e = ap (λ (x : Sight). x.entropy) same in
            rw (← a, ← b) (ap (λ m. m.entropy) en, p)

    pub observed-seen : Seen v c e
    observed-seen = record { inside = found.1.inside; counts = found.1.counts; entropy = found.0 }

    -- every other cell gives way to it, where no entropy is a NaN
    pub observed-least : Numbers v.entropies → length v.counts ≤ length v.entropies → (j : ℕ) → j < length v.domains → Yields v c j
    observed-least numbers each = found.1.least (ordered v numbers each)

  -- of two cells that give way to each other neither is the lower
  not-below : {c d : ℕ} → counts_at v d ≡ true → counts_at v c ≡ true → Yields v c d → Yields v d c → d ≤ c
  not-below D C y z = le_of_suc-le-suc (lt_of_not-le (λ l. true≢false (sym ((z C).1 l) ∙ (y D).0)))

  -- and it is the only one to which every other gives way
  pub least-observed : Numbers v.entropies → length v.counts ≤ length v.entropies → (c : ℕ) → c < length v.domains → counts_at v c ≡ true
      → ((j : ℕ) → j < length v.domains → Yields v c j) → observe v ≡ Some (sight c (entropy_at v c))
  least-observed numbers each c l h yields = by_best (λ o. o ≡ Some (sight c (entropy_at v c))) go
    where
      same : (d : ℕ) → Picked v (length v.domains) d → d ≡ c
      same d p =
          let least = p.least (ordered v numbers each) c l in
          let kept = yields d p.inside in
          le_antisymm (not-below p.counts h kept least) (not-below h p.counts least kept)

      go : (b : Best) → Scanned v (length v.domains) b → observed_as b ≡ Some (sight c (entropy_at v c))
      go Empty s = absurd (true≢false (sym h ∙ s c l))
      go (At d n) (en, p) = rw (en, same d p)
