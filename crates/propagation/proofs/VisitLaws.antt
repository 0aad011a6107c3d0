-- Laws of the visits to a list of patterns at a cell, each of which takes one support: up to the next loss, and of what is left of the list.
-- Follows docs/RULES.md, "Propagation".
-- Assumes nothing.
use mathlib.Core.Bool.{Bool, true, false, cond}
use mathlib.Core.List.{List, [], ◌∷◌}
use mathlib.Core.Path.{◌≡◌, refl, sym, ap, subst, ◌∙◌}
use Prim.Native.Nat.{ℕ, zero, suc, ◌+◌, ◌-◌, ◌*◌, ◌≤◌, ◌<◌}
use native.Mathlib.Nat.{le_refl, le_trans, le-suc}
use native.Mathlib.Numerals.{add-one}
use native.Mathlib.Omega.{arith}
use lib.Dec.{eqb, leb}
use lib.ListN.{length, get_or, set, drop, length-drop, drop_of_length-le}
use lib.Seq.{drop-cons}
use borrow.Author.Tests.{eqb-true, eqb-false, le-leb}
use Rattle.loops.specs.Loops.{each}
use Rattle.adjacency.specs.Accepted.{AllBelow}
use Rattle.consistency.specs.Domains.{possible}
use Rattle.consistency.specs.Worklist.{Removal, removal, State, place, remove, decrement_at, decrement, decrements}
use Rattle.consistency.specs.Safe.{Safe}
use Rattle.propagation.specs.declared.inner.propagator.Pile.{Pile}
use Rattle.propagation.specs.Supports.{Visit, visit, visit_at, Visits, visits, until_loss}
use Rattle.propagation.specs.Lent.{state_of, Lent}
use Rattle.adjacency.proofs.ListLaws.{all_below-at}
use Rattle.consistency.proofs.Keep.{counted-possible, safe-decrement}
use Rattle.propagation.proofs.LentLaws.{lent-safe, lent-after, place-below}

-- ---- one support is taken; `b` is whether it was the last, and C' the counts after it

module _ (C : List ℕ) (k : ℕ) {C' : List ℕ} {b : Bool} (e : visit b C' ≡ visit_at C k) where
  last-is : b ≡ eqb (get_or C k 0) 1
  unfolding visit_at
  last-is = ap (λ (t : Visit). t.last) e

  left_is : C' ≡ cond (leb 2 (get_or C k 0)) (set C k (get_or C k 0 - 1)) C
  unfolding visit_at
  left_is = ap (λ (t : Visit). t.counts) e

  last_one : b ≡ true → get_or C k 0 ≡ 1
  last_one t = eqb-true _ _ (sym last-is ∙ t)

  -- the last support is left to the removal
  last_same : b ≡ true → C' ≡ C
  last_same t = left_is ∙ rw (last_one t)

-- ---- the loop up to the next loss

module _ (base d : ℕ) (list : List ℕ) {R : Visits} where
  module _ (C : List ℕ) {i q : ℕ} {C' : List ℕ} {b : Bool} (h : i < length list) (at : q ≡ get_or list i 0) (e : visit b C' ≡ visit_at C ((base + q) * 4 + d))
      (inv : until_loss base d (drop i list) C ≡ R) where
    one_more : (qs : List ℕ) → until_loss base d (q ∷ qs) C ≡ cond b (visits (q ∷ qs) C') (until_loss base d qs C')
    unfolding until_loss
    one_more qs = ap (λ (t : Visit). cond t.last (visits (q ∷ qs) t.counts) (until_loss base d qs t.counts)) (sym e)

    loss_here : cond b (visits (drop i list) C') (until_loss base d (drop (i + 1) list) C') ≡ R
    loss_here =
        let first : drop i list ≡ q ∷ drop (suc i) list = drop-cons list i 0 h ∙ rw at in
        let k : until_loss base d (q ∷ drop (suc i) list) C ≡ R = rw first at inv in
        rw (first, add-one) (sym (one_more (drop (suc i) list)) ∙ k)

    -- a turn at i, which took a support that was not the last
    pub loss_turn : b ≡ false → until_loss base d (drop (i + 1) list) C' ≡ R
    loss_turn t = rw t at loss_here

    -- the last one ends the loop
    pub loss_stop : b ≡ true → visits (drop i list) C' ≡ R
    loss_stop t = rw t at loss_here

  pub loss_end : (C : List ℕ) {i : ℕ} → length list ≤ i → until_loss base d (drop i list) C ≡ R → visits (drop i list) C ≡ R
  unfolding until_loss
  loss_end C h inv = rw (drop_of_length-le list h) (rw (drop_of_length-le list h) at inv)

-- no more is left than there was
loss_shorter : (base d : ℕ) (qs C : List ℕ) → length (until_loss base d qs C).left ≤ length qs
unfolding until_loss
loss_shorter base d [] C = le_refl 0
loss_shorter base d (q ∷ qs) C = let t = visit_at C ((base + q) * 4 + d) in go t.last t.counts _ (loss_shorter base d qs t.counts)
  where
    go : (b : Bool) (C' : List ℕ) (v : Visits) → length v.left ≤ length qs → length (cond b (visits (q ∷ qs) C') v).left ≤ suc (length qs)
    go true C' v h = le_refl _
    go false C' v h = le_trans h (le-suc _)

pub loss_later : (base d : ℕ) (list C : List ℕ) (i r : ℕ) {C' : List ℕ} → visits (drop r list) C' ≡ until_loss base d (drop i list) C
    → length list - r ≤ length list - i
loss_later base d list C i r e =
    omega (arith, ap (λ (v : Visits). length v.left) e, loss_shorter base d (drop i list) C, length-drop r list, length-drop i list)

-- ---- what the visits up to a loss come to

-- the counts of a list's patterns are there
pub list_inside : {P n : ℕ} {D C Q : List ℕ} {pile : Pile} → Lent P n D C Q pile → {c d : ℕ} → c < n → d < 4 → (list : List ℕ) → AllBelow P list
    → {m : ℕ} → m ≡ length C → (i : ℕ) → i < length list → place P c (get_or list i 0) d < m
list_inside L hc hd list a e i h = omega (arith, e, place-below L hc (all_below-at list a i h) _ hd)

-- the first pattern of a list has one support left
abbrev pub Losing : ℕ → ℕ → ℕ → List ℕ → List ℕ → Type 0
Losing P c d [] C = Unit {0}
Losing P c d (q ∷ qs) C = get_or C (place P c q d) 0 ≡ 1

-- a pattern that has a support is possible
pub last-possible : {P n : ℕ} {D C Q : List ℕ} {pile : Pile} → Lent P n D C Q pile → {c d q : ℕ} → c < n → d < 4 → q < P → get_or C (place P c q d) 0 ≡ 1
    → possible D c q ≡ 1
last-possible L hc hd hq one = counted-possible _ _ _ _ L.safe _ _ _ hc hq hd (omega (arith, one))

pub losing_at : (P c d : ℕ) (list C : List ℕ) {i q : ℕ} → i < length list → q ≡ get_or list i 0 → Losing P c d (drop i list) C → get_or C (place P c q d) 0 ≡ 1
losing_at P c d list C {i} {q} h at l =
    let k : get_or C (place P c (get_or list i 0) d) 0 ≡ 1 = subst (λ (qs : List ℕ). Losing P c d qs C) (drop-cons list i 0 h) l in
    rw at k

all_below-drop : (n : ℕ) (l : List ℕ) (i : ℕ) → AllBelow n l → AllBelow n (drop i l)
all_below-drop n l zero a = a
all_below-drop n [] (suc i) a = a
all_below-drop n (x ∷ l) (suc i) a = all_below-drop n l i a.1

module _ (P : ℕ) (D Q : List ℕ) (pile : Pile) (c d : ℕ) {X : Type 0} (keep : Removal → List ℕ → X → X) (x : X) where
  -- with its last support a pattern goes
  pub decrement-last : (C : List ℕ) (q : ℕ) {s : State X} → get_or C (place P c q d) 0 ≡ 1 → s ≡ remove P keep (removal c q) (state_of P D C Q pile x)
      → s ≡ decrement P keep c d q (state_of P D C Q pile x)
  unfolding decrement
  decrement-last C q one k = rw (one, decrement) k

  -- without, only the counts change
  decrement_more : (C : List ℕ) (q : ℕ) {C' : List ℕ} {b : Bool} → visit b C' ≡ visit_at C (place P c q d) → b ≡ false
      → state_of P D C' Q pile x ≡ decrement P keep c d q (state_of P D C Q pile x)
  unfolding decrement
  decrement_more C q e t = rw (left_is C _ e) (go (get_or C (place P c q d) 0) (eqb-false _ _ (sym (last-is C _ e) ∙ t)))
    where
      go : (m : ℕ) → (m ≡ 1 → ⊥)
          → state_of P D (cond (leb 2 m) (set C (place P c q d) (m - 1)) C) Q pile x ≡ decrement_at P keep c d q m (state_of P D C Q pile x)
      go zero f = refl
      go (suc zero) f = absurd (f refl)
      go (suc (suc m)) f =
          let less : suc (suc m) - 1 ≡ suc m = omega arith in
          rw (le-leb 2 (suc (suc m)) (omega arith), less)

  -- what is left to do after the visits leads to the same end, and starts with a loss
  pub record Visiting (n : ℕ) (qs C : List ℕ) (v : Visits) : Type 0 where
    pub lent : Lent P n D v.counts Q pile
    pub losing : Losing P c d v.left v.counts
    pub same : each (decrement P keep c d) v.left (state_of P D v.counts Q pile x) ≡ each (decrement P keep c d) qs (state_of P D C Q pile x)

  module _ {n : ℕ} (hc : c < n) (hd : d < 4) where
    visited : (qs C : List ℕ) → AllBelow P qs → Lent P n D C Q pile → Visiting n qs C (until_loss (c * P) d qs C)
    unfolding until_loss each
    visited [] C a L = record { lent = L; losing = tt; same = refl }
    visited (q ∷ qs) C a L = go _ _ refl (λ C' L'. visited qs C' a.1 L')
      where
        go : (b : Bool) (C' : List ℕ) → visit b C' ≡ visit_at C (place P c q d)
            → ((C' : List ℕ) → Lent P n D C' Q pile → Visiting n qs C' (until_loss (c * P) d qs C'))
            → Visiting n (q ∷ qs) C (cond b (visits (q ∷ qs) C') (until_loss (c * P) d qs C'))
        go true C' e rest =
            let z = last_same C _ e refl in
            record { lent = rw z L; losing = rw z (last_one C _ e refl); same = rw z }
        go false C' e rest =
            let step = decrement_more C q e refl in
            let v = rest C' (lent-after L (subst (λ (s : State X). Safe P n (n * P) s) (sym step) (safe-decrement _ _ _ _ _ _ _ _ hc hd a.0 (lent-safe L x))) refl) in
            record { lent = v.lent; losing = v.losing; same = v.same ∙ ap (each (decrement P keep c d) qs) step }

    -- from entry i of a list on
    pub visited-from : (list C : List ℕ) (i : ℕ) {v : Visits} → AllBelow P list → Lent P n D C Q pile → v ≡ until_loss (c * P) d (drop i list) C
        → Visiting n (drop i list) C v
    visited-from list C i a L e = subst (λ (v : Visits). Visiting n (drop i list) C v) (sym e) (visited (drop i list) C (all_below-drop P list i a) L)

-- ---- a list

pub decrements-each : (P : ℕ) {X : Type 0} (keep : Removal → List ℕ → X → X) (c d : ℕ) (qs : List ℕ) (s : State X)
    → decrements P keep c d qs s ≡ each (decrement P keep c d) qs s
unfolding decrements each
decrements-each P keep c d [] s = refl
decrements-each P keep c d (q ∷ qs) s = decrements-each P keep c d qs (decrement P keep c d q s)
