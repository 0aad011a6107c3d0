-- Laws of what a sheet's bytes say: how much it is.
-- Assumes nothing.
use mathlib.Core.Bool.{Bool, true, false, ◌&&◌, false≢true}
use mathlib.Core.List.{List, [], ◌∷◌, ◌++◌}
use mathlib.Core.Path.{◌≡◌, refl, sym, ap, ◌∙◌}
use Prim.Native.Nat.{ℕ, zero, suc, ◌+◌, ◌*◌, ◌/◌, ◌≤◌, ◌<◌}
use native.Mathlib.Numerals.{add-one}
use native.Mathlib.Omega.{arith}
use lib.Dec.{leb, ltb}
use lib.ListN.{length, get_or, set, take, drop, replicate, length-append, length-take, length-drop, length-replicate, drop_of_length-le}
use lib.Seq.{length-take-le, drop-cons, drop-drop, sets}
use borrow.Author.Tests.{leb-true, ltb-true, ltb-false}
use Rattle.records.specs.Numbers.{numbers_in}
use Rattle.records.specs.Records.{payload_of}
use Rattle.layout.specs.Tables.{offsets_from, joined, table_of}
use Rattle.layout.specs.Reading.{from_lists, from_forbids, count_in, lists_fit, lists_in, sheet_in}
use Rattle.layout.specs.Lending.{Lent, lent, filled, Roomy}
use Rattle.layout.specs.Sheet.{Sheet}
use Rattle.records.proofs.RecordLaws.{Bytes, bytes_drop, bytes-payload, bytes_rest}
use Rattle.records.proofs.LayingLaws.{sets_over}
use Rattle.loops.proofs.TestLaws.{both}
use Rattle.layout.proofs.ShapeLaws.{weights-length, Formed}

-- two bytes for each number
pub numbers_in-length : (p : List ℕ) → length (numbers_in p) ≡ length p / 2
unfolding numbers_in
numbers_in-length [] = refl
numbers_in-length (x ∷ []) = refl
numbers_in-length (x ∷ y ∷ p) = omega (arith, numbers_in-length p)

-- a byte for each list and one for each id
pub lists_length : (n : ℕ) (p : List ℕ) → lists_fit n p ≡ true → length p ≡ n + length (joined (lists_in n p))
unfolding lists_fit lists_in joined
lists_length zero [] e = refl
lists_length zero (x ∷ p) e = absurd (false≢true e)
lists_length (suc n) [] e = absurd (false≢true e)
lists_length (suc n) (x ∷ p) e =
    let (fits, rest) = both (leb x (length p)) (lists_fit n (drop x p)) e in
    let h : x ≤ length p = leb-true x (length p) fits in
    omega (arith, lists_length n (drop x p) rest, length-append (take x p) (joined (lists_in n (drop x p))), length-take-le x p h, length-drop x p)

-- as many lists
pub lists_in-length : (n : ℕ) (p : List ℕ) → lists_fit n p ≡ true → length (lists_in n p) ≡ n
unfolding lists_fit lists_in
lists_in-length zero p e = refl
lists_in-length (suc n) [] e = absurd (false≢true e)
lists_in-length (suc n) (x ∷ p) e = ap suc (lists_in-length n (drop x p) (both (leb x (length p)) (lists_fit n (drop x p)) e).1)

-- ---- the list at a place of the payload, of which it is known that it and n more fit

module _ (n at : ℕ) (p : List ℕ) (fit : lists_fit (suc n) (drop at p) ≡ true) where
  pub next_inside : at < length p
  unfolding lists_fit
  next_inside = go (ltb at (length p)) refl
    where
      go : (b : Bool) → ltb at (length p) ≡ b → at < length p
      go true e = ltb-true at (length p) e
      go false e = absurd (false≢true (rw (drop_of_length-le p (ltb-false at (length p) e)) at fit))

  next_front : leb (get_or p at 0) (length (drop (suc at) p)) && lists_fit n (drop (get_or p at 0) (drop (suc at) p)) ≡ true
  unfolding lists_fit
  next_front = rw (drop-cons p at 0 next_inside) at fit

  next_step : drop (get_or p at 0) (drop (suc at) p) ≡ drop (at + 1 + get_or p at 0) p
  next_step =
      let place : suc at + get_or p at 0 ≡ at + 1 + get_or p at 0 = omega arith in
      drop-drop (get_or p at 0) (suc at) p ∙ ap (λ (k : ℕ). drop k p) place

  pub next_size : at + 1 + get_or p at 0 ≤ length p
  next_size =
      let h : get_or p at 0 ≤ length (drop (suc at) p) = leb-true _ _ (both (leb (get_or p at 0) (length (drop (suc at) p))) _ next_front).0 in
      omega (arith, length-drop (suc at) p, next_inside)

  pub next_fit : lists_fit n (drop (at + 1 + get_or p at 0) p) ≡ true
  next_fit = sym (ap (lists_fit n) next_step) ∙ (both (leb (get_or p at 0) (length (drop (suc at) p))) _ next_front).1

  pub next_list : lists_in (suc n) (drop at p) ≡ take (get_or p at 0) (drop (at + 1) p) ∷ lists_in n (drop (at + 1 + get_or p at 0) p)
  unfolding lists_in
  next_list =
      let x = get_or p at 0 in
      ap (lists_in (suc n)) (drop-cons p at 0 next_inside) ∙ ap (λ (l : List ℕ). take x (drop (suc at) p) ∷ lists_in n l) next_step
      ∙ ap (λ (k : ℕ). take x (drop k p) ∷ lists_in n (drop (at + 1 + x) p)) (sym (add-one at))

  pub next_length : length (take (get_or p at 0) (drop (at + 1) p)) ≡ get_or p at 0
  next_length = length-take-le (get_or p at 0) (drop (at + 1) p) (omega (arith, length-drop (at + 1) p, next_size))

  -- a turn of each loop over the lists
  pub offsets-turn : (ids : ℕ) (offsets : List ℕ) (k : ℕ)
      → sets (set offsets k ids) (k + 1) (offsets_from (ids + get_or p at 0) (lists_in n (drop (at + 1 + get_or p at 0) p))) ≡ sets offsets k (offsets_from ids (lists_in (suc n) (drop at p)))
  unfolding offsets_from
  offsets-turn ids offsets k = rw (next_list, next_length, add-one k)

  pub joined_next : joined (lists_in (suc n) (drop at p)) ≡ take (get_or p at 0) (drop (at + 1) p) ++ joined (lists_in n (drop (at + 1 + get_or p at 0) p))
  unfolding joined
  joined_next = rw next_list

pub offsets-end : (ids : ℕ) (offsets : List ℕ) (k : ℕ) (p : List ℕ) → set offsets k ids ≡ sets offsets k (offsets_from ids (lists_in 0 p))
unfolding offsets_from lists_in
offsets-end ids offsets k p = refl

pub joined_none : (p : List ℕ) → joined (lists_in 0 p) ≡ []
unfolding joined lists_in
joined_none p = refl

pub offsets_from-length : (n : ℕ) (ls : List (List ℕ)) → length (offsets_from n ls) ≡ length ls + 1
unfolding offsets_from
offsets_from-length n [] = refl
offsets_from-length n (l ∷ ls) = omega (arith, offsets_from-length (n + length l) ls)

-- ---- a whole sheet

module _ (b : List ℕ) (F : Formed b) where
  pub count-is : length (sheet_in b).weights ≡ count_in b
  unfolding sheet_in count_in
  count-is =
      let (long, same) = weights-length (payload_of b) F.weights in
      omega (arith, numbers_in-length (drop 2 (payload_of b)), length-drop 2 (payload_of b))

  pub ids-is : length (payload_of (from_lists b)) ≡ 4 * count_in b + length (joined (sheet_in b).lists)
  unfolding sheet_in
  ids-is = lists_length (4 * count_in b) (payload_of (from_lists b)) F.lists

  pub forbids-is : length (sheet_in b).forbids / 3 ≡ length (payload_of (from_forbids b)) / 6
  unfolding sheet_in
  forbids-is = omega (arith, numbers_in-length (payload_of (from_forbids b)))

  -- how many bytes each part has
  pub weights-bytes : length (drop 2 (payload_of b)) ≡ 2 * length (sheet_in b).weights
  unfolding count_in
  weights-bytes =
      let (long, same) = weights-length (payload_of b) F.weights in
      omega (arith, count-is, length-drop 2 (payload_of b))

  pub forbids-bytes : length (payload_of (from_forbids b)) ≡ 2 * length (sheet_in b).forbids
  unfolding sheet_in
  forbids-bytes = omega (arith, numbers_in-length (payload_of (from_forbids b)), F.sixes)

  pub offsets-many : length (table_of (sheet_in b)).offsets ≡ 4 * count_in b + 1
  unfolding table_of sheet_in
  offsets-many = omega (arith, offsets_from-length 0 (lists_in (4 * count_in b) (payload_of (from_lists b))), lists_in-length (4 * count_in b) (payload_of (from_lists b)) F.lists)

-- ---- what `fill` leaves

module _ (s : Sheet) (m : Lent) (R : Roomy s m) where
  pub filled_is : {weights offsets ids forbids : List ℕ} → weights ≡ sets m.weights 0 s.weights → offsets ≡ sets m.offsets 0 (table_of s).offsets
      → ids ≡ sets m.ids 0 (table_of s).ids → forbids ≡ sets m.forbids 0 s.forbids → lent weights offsets ids forbids ≡ filled s m
  unfolding filled
  filled_is e₁ e₂ e₃ e₄ =
      let f₁ = e₁ ∙ sets_over s.weights m.weights R.weights in
      let f₂ = e₂ ∙ sets_over (table_of s).offsets m.offsets R.offsets in
      let f₃ = e₃ ∙ sets_over (table_of s).ids m.ids R.ids in
      let f₄ = e₄ ∙ sets_over s.forbids m.forbids R.forbids in
      λ j. lent (f₁ j) (f₂ j) (f₃ j) (f₄ j)

-- ---- a sheet in memory of its own

-- no list has over 255 ids
joined-most : (n : ℕ) (p : List ℕ) → Bytes p → length (joined (lists_in n p)) ≤ 255 * n
unfolding joined lists_in
joined-most zero p h = omega arith
joined-most (suc n) [] h = omega arith
joined-most (suc n) (x ∷ p) h =
    omega
    (arith, h 0, length-append (take x p) (joined (lists_in n (drop x p))), length-take x p, joined-most n (drop x p) (bytes_drop x p (λ k. h (suc k))))

pub roomy-own : (b : List ℕ) → Formed b → Bytes b → count_in b ≤ 64 → Roomy (sheet_in b) (lent (replicate 64 0) (replicate 257 0) (replicate 65280 0) (replicate 12288 0))
unfolding sheet_in table_of
roomy-own b F bytes few =
    let lists = payload_of (from_lists b) in
    record {
      weights = omega (arith, count-is b F, length-replicate {A = ℕ} 64 0);
      offsets = omega (arith, offsets-many b F, length-replicate {A = ℕ} 257 0);
      ids = omega (arith, joined-most (4 * count_in b) lists (bytes-payload (from_lists b) (bytes_rest b bytes)), length-replicate {A = ℕ} 65280 0);
      forbids = omega (arith, forbids-bytes b F, F.few, length-replicate {A = ℕ} 12288 0);
    }
