-- A table and its lists, both ways; and forbids as they are stored.
-- Assumes nothing.
use mathlib.Core.Bool.{true}
use mathlib.Core.List.{List, [], ◌∷◌, ◌++◌, append_assoc}
use mathlib.Core.Path.{◌≡◌, refl, sym, ap, ◌∙◌}
use Prim.Native.Nat.{ℕ, zero, suc, ◌+◌, ◌-◌, ◌*◌, ◌%◌, ◌≤◌, ◌<◌}
use native.Mathlib.Numerals.{add-one}
use native.Mathlib.Omega.{arith}
use lib.Dec.{leb}
use lib.ListN.{length, get_or, take, drop, length-append, take-append-drop, drop_of_length-le}
use lib.Seq.{drop-cons, drop-drop, take_at, drop_at, get_or_at}
use borrow.Author.Tests.{le-leb, leb-true}
use Rattle.adjacency.specs.Tables.{Table, table, list_at}
use Rattle.adjacency.specs.Accepted.{Listed}
use Rattle.layout.specs.Sheet.{Sheet}
use Rattle.layout.specs.Tables.{offsets_from, joined, table_of, lists_from, lists_of, kind_of, stored}
use Rattle.layout.specs.Reading.{kinds_fit}
use Rattle.loops.proofs.TestLaws.{both}
use Rattle.layout.proofs.WritingLaws.{list_at-length, kind-most}

-- ---- from a table to its lists and back

module _ (t : Table) (L : Listed t) where
  offsets-back : (n k : ℕ) → k + n ≡ 4 * t.count → offsets_from (get_or t.offsets k 0) (lists_from t k n) ≡ drop k t.offsets
  unfolding lists_from offsets_from
  offsets-back zero k e =
      let inside : k < length t.offsets = omega (arith, L.laid.long) in
      let past : length t.offsets ≤ suc k = omega (arith, L.laid.long) in
      sym (drop-cons t.offsets k 0 inside ∙ ap (λ (l : List ℕ). get_or t.offsets k 0 ∷ l) (drop_of_length-le t.offsets past))
  offsets-back (suc n) k e =
      let inside : k < length t.offsets = omega (arith, L.laid.long) in
      let more = list_at-length t L.laid k (omega arith) in
      let next : get_or t.offsets k 0 + length (list_at t k) ≡ get_or t.offsets (suc k) 0 = omega (arith, more, ap (λ (i : ℕ). get_or t.offsets i 0) (add-one k)) in
      ap (λ (i : ℕ). get_or t.offsets k 0 ∷ offsets_from i (lists_from t (suc k) n)) next
      ∙ ap (λ (l : List ℕ). get_or t.offsets k 0 ∷ l) (offsets-back n (suc k) (omega arith)) ∙ sym (drop-cons t.offsets k 0 inside)

  ids-back : (n k : ℕ) → k + n ≡ 4 * t.count → joined (lists_from t k n) ≡ drop (get_or t.offsets k 0) t.ids
  unfolding lists_from joined list_at
  ids-back zero k e =
      let last : k ≡ 4 * t.count = omega arith in
      let past : length t.ids ≤ get_or t.offsets k 0 = omega (arith, L.last, ap (λ (i : ℕ). get_or t.offsets i 0) last) in
      sym (drop_of_length-le t.ids past)
  ids-back (suc n) k e =
      let start = get_or t.offsets k 0 in
      let end = get_or t.offsets (k + 1) 0 in
      let same : start + (end - start) ≡ end = omega (arith, L.laid.rising k (omega arith)) in
      let rest : joined (lists_from t (suc k) n) ≡ drop (end - start) (drop start t.ids) =
      ids-back n (suc k) (omega arith) ∙ sym (ap (λ (i : ℕ). drop (get_or t.offsets i 0) t.ids) (add-one k)) ∙ sym (drop-drop (end - start) start t.ids ∙ ap (λ (i : ℕ). drop i t.ids) same) in
      ap (λ (l : List ℕ). take (end - start) (drop start t.ids) ++ l) rest ∙ take-append-drop (end - start) (drop start t.ids)

  pub offsets_from-lists_of : offsets_from 0 (lists_of t) ≡ t.offsets
  unfolding lists_of
  offsets_from-lists_of = sym (ap (λ (n : ℕ). offsets_from n (lists_from t 0 (4 * t.count))) L.first) ∙ offsets-back (4 * t.count) 0 (omega arith)

  pub joined-lists_of : joined (lists_of t) ≡ t.ids
  unfolding lists_of
  joined-lists_of = ids-back (4 * t.count) 0 (omega arith) ∙ ap (λ (n : ℕ). drop n t.ids) L.first

-- ---- from lists to a table and back

-- the first of the offsets is where the lists start
offsets-first : (a : ℕ) (ls : List (List ℕ)) (pre : List ℕ) → get_or (pre ++ offsets_from a ls) (length pre) 0 ≡ a
unfolding offsets_from
offsets-first a [] pre = get_or_at pre a [] 0 (length pre) refl
offsets-first a (l ∷ ls) pre = get_or_at pre a (offsets_from (a + length l) ls) 0 (length pre) refl

lists_back : (P : ℕ) (ls : List (List ℕ)) (pre ids : List ℕ) → lists_from (table P (pre ++ offsets_from (length ids) ls) (ids ++ joined ls)) (length pre) (length ls) ≡ ls
unfolding lists_from list_at offsets_from joined
lists_back P [] pre ids = refl
lists_back P (l ∷ ls) pre ids =
    let a = length ids in
    let O = pre ++ offsets_from a (l ∷ ls) in
    let I = ids ++ (l ++ joined ls) in
    let before = pre ++ (a ∷ []) in
    let long : length (ids ++ l) ≡ a + length l = length-append ids l in
    let offsets_same : O ≡ before ++ offsets_from (length (ids ++ l)) ls =
    sym (append_assoc pre (a ∷ []) (offsets_from (a + length l) ls)) ∙ sym (ap (λ (n : ℕ). before ++ offsets_from n ls) long) in
    let ids_same : I ≡ (ids ++ l) ++ joined ls = sym (append_assoc ids l (joined ls)) in
    let place : suc (length pre) ≡ length before = omega (arith, length-append pre (a ∷ [])) in
    let place' : length pre + 1 ≡ length before = omega (arith, length-append pre (a ∷ [])) in
    let start : get_or O (length pre) 0 ≡ a = offsets-first a (l ∷ ls) pre in
    let end : get_or O (length pre + 1) 0 ≡ a + length l = (λ j. get_or (offsets_same j) (place' j) 0) ∙ offsets-first (length (ids ++ l)) ls before ∙ long in
    let size : a + length l - a ≡ length l = omega arith in
    let here : take (get_or O (length pre + 1) 0 - get_or O (length pre) 0) (drop (get_or O (length pre) 0) I) ≡ l =
    (λ j. take (end j - start j) (drop (start j) I)) ∙ ap (λ (n : ℕ). take n (drop a I)) size ∙ ap (take (length l)) (drop_at ids (l ++ joined ls) a refl)
    ∙ take_at l (joined ls) (length l) refl in
    (λ j. here j ∷ lists_from (table P (offsets_same j) (ids_same j)) (place j) (length ls)) ∙ ap (λ (r : List (List ℕ)). l ∷ r) (lists_back P ls before (ids ++ l))

pub lists_of-table_of : (s : Sheet) → length s.lists ≡ 4 * length s.weights → lists_of (table_of s) ≡ s.lists
unfolding lists_of table_of
lists_of-table_of s e = sym (ap (lists_from (table (length s.weights) (offsets_from 0 s.lists) (joined s.lists)) 0) e) ∙ lists_back (length s.weights) s.lists [] []

-- ---- forbids as they are stored

kind_same : (k : ℕ) → leb k 1 ≡ true → kind_of k ≡ k
unfolding kind_of
kind_same zero e = refl
kind_same (suc zero) e = refl
kind_same (suc (suc k)) e = absurd (omega (arith, leb-true (suc (suc k)) 1 e))

-- those that are stored already stay
pub stored_same : (fs : List ℕ) → kinds_fit fs ≡ true → length fs % 3 ≡ 0 → stored fs ≡ fs
unfolding stored kinds_fit
stored_same [] e h = refl
stored_same (c ∷ []) e h = absurd (omega arith)
stored_same (c ∷ p ∷ []) e h = absurd (omega arith)
stored_same (c ∷ p ∷ k ∷ fs) e h =
    let (one, rest) = both (leb k 1) (kinds_fit fs) e in
    λ j. c ∷ p ∷ kind_same k one j ∷ stored_same fs rest (omega arith) j

pub kinds_fit-stored : (fs : List ℕ) → kinds_fit (stored fs) ≡ true
unfolding stored kinds_fit
kinds_fit-stored [] = refl
kinds_fit-stored (c ∷ []) = refl
kinds_fit-stored (c ∷ p ∷ []) = refl
kinds_fit-stored (c ∷ p ∷ k ∷ fs) = rw (le-leb (kind_of k) 1 (kind-most k)) (kinds_fit-stored fs)
