-- Laws of the checks of lists: the turns of the loops that make them, and what a check that passed gives.
-- Follows docs/RULES.md, "Tables".
-- Assumes nothing.
use mathlib.Core.Bool.{Bool, true, false, ◌&&◌}
use mathlib.Core.List.{List, [], ◌∷◌}
use mathlib.Core.Path.{◌≡◌, refl, sym, ap}
use Prim.Native.Nat.{ℕ, zero, suc, ◌+◌, ◌-◌, ◌*◌, ◌/◌, ◌%◌, ◌≤◌, ◌<◌}
use native.Mathlib.Decide.{ℕ_discrete}
use native.Mathlib.Nat.{le_refl, le_of_eq, le_of_suc-le-suc}
use native.Mathlib.Numerals.{add-one, sub-one}
use native.Mathlib.Omega.{arith}
use lib.Dec.{T, eqb, ltb, leb→le, ltb→lt, le→leb, lt→ltb}
use lib.Ieee.Fits.{and_i, and_l, and_r}
use lib.ListN.{length, get_or}
use borrow.Author.Tests.{ltb-true, ltb-false, eqb-true, eq-eqb, lt-ltb, le-ltb, lt-leb, not-false}
use Rattle.std.specs.Bool.{MatchBool}
use Rattle.std.specs.List.{IsAllAdjacentAnswer}
use Rattle.std.specs.List.Sorted.{IsNonDecreasing}
use Rattle.loops.specs.Tests.{all_to}
use Rattle.adjacency.specs.Tables.{Table, list_at, list_of}
use Rattle.adjacency.specs.Checks.{rises_at, rises_below, offsets_ok, list_ok, lists_ok, bad_list}
use Rattle.adjacency.specs.Accepted.{AllBelow, AllAbove, Ascends, Laid, Listed}
use Rattle.loops.proofs.TestLaws.{T_true, true-T, both, all-at, all_of, all-fails}

-- ---- the check of a list by its entries

and-false : (a : Bool) → a && false ≡ false
and-false true = refl
and-false false = refl

module _ (P : ℕ) where
  rises-true : (x : ℕ) (l : List ℕ) → ((k : ℕ) → k < length l → get_or (x ∷ l) k 0 < get_or l k 0) → get_or (x ∷ l) (length l) 0 < P
      → rises_below P (x ∷ l) ≡ true
  unfolding rises_below
  rises-true x [] h last = lt-ltb x P last
  rises-true x (y ∷ l) h last = rw (lt-ltb x y (h 0 (omega arith))) (rises-true y l (λ k j. h (suc k) (omega arith)) last)

  rises-falls : (x : ℕ) (l : List ℕ) (k : ℕ) → k < length l → get_or l k 0 ≤ get_or (x ∷ l) k 0 → rises_below P (x ∷ l) ≡ false
  unfolding rises_below
  rises-falls x [] k h e = absurd (omega arith)
  rises-falls x (y ∷ l) zero h e = rw (le-ltb x y e)
  rises-falls x (y ∷ l) (suc k) h e = rw (rises-falls y l k (omega arith) e) (and-false (ltb x y))

  rises-past : (x : ℕ) (l : List ℕ) → P ≤ get_or (x ∷ l) (length l) 0 → rises_below P (x ∷ l) ≡ false
  unfolding rises_below
  rises-past x [] e = le-ltb x P e
  rises-past x (y ∷ l) e = rw (rises-past y l e) (and-false (ltb x y))

  pub list_ok-true : (l : List ℕ) → 0 < length l → ((k : ℕ) → k + 1 < length l → get_or l k 0 < get_or l (k + 1) 0) → get_or l (length l - 1) 0 < P → list_ok P l ≡ true
  unfolding list_ok
  list_ok-true [] some h last = absurd (omega arith)
  list_ok-true (x ∷ l) some h last =
      rises-true x l (λ k j. rw add-one at (h k (omega arith))) (rw sub-one at last)

  pub list_ok-falls : (l : List ℕ) (k : ℕ) → k + 1 < length l → get_or l (k + 1) 0 ≤ get_or l k 0 → list_ok P l ≡ false
  unfolding list_ok
  list_ok-falls [] k h e = absurd (omega arith)
  list_ok-falls (x ∷ l) k h e = rises-falls x l k (omega arith) (rw add-one at e)

  pub list_ok-past : (l : List ℕ) → 0 < length l → P ≤ get_or l (length l - 1) 0 → list_ok P l ≡ false
  unfolding list_ok
  list_ok-past [] some e = absurd (omega arith)
  list_ok-past (x ∷ l) some e = rises-past x l (rw sub-one at e)

-- in a list with a last id below P, the order decides
pub list_ok-sorted : (P : ℕ) (r : Bool) (l : List ℕ) → 0 < length l → get_or l (length l - 1) 0 < P → IsAllAdjacentAnswer (λ x y b. b ≡ ltb x y) l r → r ≡ list_ok P l
list_ok-sorted P true l some last h = sym (list_ok-true P l some (λ k j. ltb-true _ _ (sym (h k 0 j))) last)
list_ok-sorted P false l some last (k, inside, falls) = sym (list_ok-falls P l k inside (ltb-false _ _ (sym (falls 0))))

pub list_ok_none : (P : ℕ) (l : List ℕ) → length l ≡ 0 → list_ok P l ≡ false
unfolding list_ok
list_ok_none P [] e = refl
list_ok_none P (x ∷ l) e = absurd (omega arith)

-- sorted offsets are those of which none falls
pub sorted-rises : (r : Bool) (n : ℕ) (l : List ℕ) → length l ≡ n + 1
    → MatchBool r (IsNonDecreasing l) ((k : ℕ) × (k + 1 < length l) × ((d : ℕ) → get_or l (k + 1) d < get_or l k d)) → r ≡ all_to n (rises_at l)
sorted-rises true n l long h = sym (true-T _ (all_of (rises_at l) n (λ k j. le→leb _ _ (h k (k + 1) 0 (omega arith) (omega arith)))))
sorted-rises false n l long (k, inside, falls) = sym (all-fails (rises_at l) k n (omega arith) (lt-leb _ _ (falls 0)))

-- ---- what a list that passed is

above-less : {x y : ℕ} → x ≤ y → (l : List ℕ) → AllAbove y l → AllAbove x l
above-less h [] a = tt
above-less h (z ∷ l) a = (omega arith, above-less h l a.1)

rises-facts : (P : ℕ) (l : List ℕ) → T (rises_below P l) → Ascends l × AllBelow P l
unfolding rises_below
rises-facts P [] t = (tt, tt)
rises-facts P (x ∷ []) t = ((tt, tt), (ltb→lt x P t, tt))
rises-facts P (x ∷ y ∷ l) t =
    let above = ltb→lt x y (and_l (ltb x y) (rises_below P (y ∷ l)) t) in
    let (a, b) = rises-facts P (y ∷ l) (and_r (ltb x y) (rises_below P (y ∷ l)) t) in
    (((above, above-less (omega arith) l a.0), a), (omega arith, b))

pub list_ok-facts : (P : ℕ) (l : List ℕ) → T (list_ok P l) → (0 < length l) × (Ascends l × AllBelow P l)
unfolding list_ok
list_ok-facts P [] t = absurd t
list_ok-facts P (x ∷ l) t = (omega arith, rises-facts P (x ∷ l) t)

rises_of : (P : ℕ) (l : List ℕ) → Ascends l → AllBelow P l → T (rises_below P l)
unfolding rises_below
rises_of P [] a b = tt
rises_of P (x ∷ []) a b = lt→ltb x P b.0
rises_of P (x ∷ y ∷ l) a b = and_i (ltb x y) (rises_below P (y ∷ l)) (lt→ltb x y a.0.0) (rises_of P (y ∷ l) a.1 b.1)

pub facts-list_ok : (P : ℕ) (l : List ℕ) → 0 < length l → Ascends l → AllBelow P l → T (list_ok P l)
unfolding list_ok
facts-list_ok P [] h a b = absurd (omega arith)
facts-list_ok P (x ∷ l) h a b = rises_of P (x ∷ l) a b

pub all_below-at : {n : ℕ} (l : List ℕ) → AllBelow n l → (i : ℕ) → i < length l → get_or l i 0 < n
all_below-at [] a i h = absurd (omega arith)
all_below-at (x ∷ l) a zero h = a.0
all_below-at (x ∷ l) a (suc i) h = all_below-at l a.1 i (le_of_suc-le-suc h)

-- numbers that ascend below n are at most n
pub ascends-short : {n : ℕ} (l : List ℕ) → Ascends l → AllBelow n l → length l ≤ n
ascends-short [] a b = omega arith
ascends-short (x ∷ l) a b = omega (arith, after x l a.0 a.1 b.0 b.1)
  where
    after : {n : ℕ} (x : ℕ) (l : List ℕ) → AllAbove x l → Ascends l → x < n → AllBelow n l → length l + x < n
    after x [] above a h b = omega arith
    after x (y ∷ l) above a h b = omega (arith, after y l a.0 a.1 b.0 b.1)

-- list k is the list of a pattern and a direction
pub list_at_of : (t : Table) (k : ℕ) → list_at t k ≡ list_of t (k / 4) (k % 4)
unfolding list_of
list_at_of t k = ap (list_at t) (omega arith)

-- ---- what offsets and lists that passed are, and that what is so passes

-- numbers that never fall stay below the last
climbs : (f : ℕ → ℕ) (n : ℕ) → ((i : ℕ) → i < n → f i ≤ f (i + 1)) → (i : ℕ) → i ≤ n → f i ≤ f n
climbs f zero h i k = le_of_eq (ap f (omega arith))
climbs f (suc n) h i k =
    elim (ℕ_discrete i (suc n)) [
      | yes e ↦ le_of_eq (ap f e)
      | no e ↦ omega (arith, climbs f n (λ j l. h j (omega arith)) i (omega arith), h n (le_refl (suc n)), ap f (add-one n))
    ]

module _ (t : Table) where
  -- the three tests of the offsets
  offset-tests : offsets_ok t ≡ true → (get_or t.offsets 0 0 ≡ 0) × (all_to (4 * t.count) (rises_at t.offsets) ≡ true) × (get_or t.offsets (4 * t.count) 0 ≡ length t.ids)
  unfolding offsets_ok
  offset-tests ok =
      let rises = all_to (4 * t.count) (rises_at t.offsets) in
      let last = eqb (get_or t.offsets (4 * t.count) 0) (length t.ids) in
      let (a, rest) = both (eqb (get_or t.offsets 0 0) 0) (rises && last) ok in
      let (b, c) = both rises last rest in
      (eqb-true _ _ a, b, eqb-true _ _ c)

  pub laid : length t.offsets ≡ 4 * t.count + 1 → offsets_ok t ≡ true → Laid t
  laid long ok = record { long = long; rising = step; ends = λ k h. omega (arith, climbs (λ i. get_or t.offsets i 0) (4 * t.count) step k h, (offset-tests ok).2) }
    where
      step : (k : ℕ) → k < 4 * t.count → get_or t.offsets k 0 ≤ get_or t.offsets (k + 1) 0
      step k h = leb→le _ _ (all-at (rises_at t.offsets) (4 * t.count) (T_true (offset-tests ok).1) k h)

  pub listed : length t.offsets ≡ 4 * t.count + 1 → bad_list t ≡ false → Listed t
  unfolding bad_list lists_ok list_of
  listed long ok =
      record {
        first = (offset-tests parts.0).0;
        last = (offset-tests parts.0).2;
        laid = laid long parts.0;
        filled = λ p d hp hd. (at p d hp hd).0;
        ascends = λ p d hp hd. (at p d hp hd).1.0;
        below = λ p d hp hd. (at p d hp hd).1.1;
      }
    where
      parts : (offsets_ok t ≡ true) × (lists_ok t ≡ true)
      parts = both _ _ (not-false _ ok)

      at : (p d : ℕ) → p < t.count → d < 4 → (0 < length (list_of t p d)) × (Ascends (list_of t p d) × AllBelow t.count (list_of t p d))
      at p d hp hd = list_ok-facts t.count (list_of t p d) (all-at (λ k. list_ok t.count (list_at t k)) (4 * t.count) (T_true parts.1) (4 * p + d) (omega arith))

  pub listed-good : Listed t → bad_list t ≡ false
  unfolding bad_list offsets_ok lists_ok list_of
  listed-good h = rw (eq-eqb _ _ h.first, eq-eqb _ _ h.last, true-T (all_to (4 * t.count) (rises_at t.offsets)) rises, true-T (all_to (4 * t.count) (λ k. list_ok t.count (list_at t k))) lists)
    where
      rises : T (all_to (4 * t.count) (rises_at t.offsets))
      rises = all_of (rises_at t.offsets) (4 * t.count) (λ k l. le→leb _ _ (h.laid.rising k l))

      at : (k : ℕ) → k < 4 * t.count → T (list_ok t.count (list_at t k))
      at k l =
          let hp : k / 4 < t.count = omega arith in
          let hd : k % 4 < 4 = omega arith in
          rw (list_at_of t k) (facts-list_ok t.count (list_of t (k / 4) (k % 4)) (h.filled _ _ hp hd) (h.ascends _ _ hp hd) (h.below _ _ hp hd))

      lists : T (all_to (4 * t.count) (λ k. list_ok t.count (list_at t k)))
      lists = all_of (λ k. list_ok t.count (list_at t k)) (4 * t.count) at
