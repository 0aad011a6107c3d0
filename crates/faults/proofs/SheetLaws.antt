-- The table of a sheet is laid out as it must be: whatever its lists are, its offsets name a part of the ids for each.
-- Assumes nothing.
use mathlib.Core.Bool.{true}
use mathlib.Core.List.{List, [], ◌∷◌}
use mathlib.Core.Path.{◌≡◌, refl, ap}
use Prim.Native.Nat.{ℕ, zero, suc, ◌+◌, ◌*◌, ◌≤◌, ◌<◌}
use native.Mathlib.Nat.{le_of_suc-le-suc}
use native.Mathlib.Numerals.{add-one}
use native.Mathlib.Omega.{arith}
use lib.Dec.{T, le→leb}
use lib.ListN.{length, get_or, length-append}
use borrow.Author.Tests.{eq-eqb}
use Rattle.loops.specs.Tests.{all_to}
use Rattle.adjacency.specs.Checks.{rises_at, offsets_ok}
use Rattle.adjacency.specs.Accepted.{Laid}
use Rattle.layout.specs.Sheet.{Sheet}
use Rattle.layout.specs.Tables.{offsets_from, joined, table_of}
use Rattle.layout.specs.Reading.{sheet_in}
use Rattle.loops.proofs.TestLaws.{true-T, all_of}
use Rattle.adjacency.proofs.ListLaws.{laid}
use Rattle.layout.proofs.ShapeLaws.{Formed}
use Rattle.layout.proofs.ReadingLaws.{count-is, offsets-many, lists_in-length}

offsets-start : (n : ℕ) (ls : List (List ℕ)) → get_or (offsets_from n ls) 0 0 ≡ n
unfolding offsets_from
offsets-start n [] = refl
offsets-start n (l ∷ ls) = refl

offsets-rise : (n : ℕ) (ls : List (List ℕ)) (k : ℕ) → k < length ls → get_or (offsets_from n ls) k 0 ≤ get_or (offsets_from n ls) (suc k) 0
unfolding offsets_from
offsets-rise n [] k h = absurd (omega arith)
offsets-rise n (l ∷ ls) zero h = omega (arith, offsets-start (n + length l) ls)
offsets-rise n (l ∷ ls) (suc k) h = offsets-rise (n + length l) ls k (le_of_suc-le-suc h)

offsets-last : (n : ℕ) (ls : List (List ℕ)) → get_or (offsets_from n ls) (length ls) 0 ≡ n + length (joined ls)
unfolding offsets_from joined
offsets-last n [] = omega arith
offsets-last n (l ∷ ls) = omega (arith, offsets-last (n + length l) ls, length-append l (joined ls))

-- where there are four lists for each pattern
pub offsets-ok : (s : Sheet) → length s.lists ≡ 4 * length s.weights → offsets_ok (table_of s) ≡ true
unfolding offsets_ok table_of
offsets-ok s e =
    let offsets = offsets_from 0 s.lists in
    let n = 4 * length s.weights in
    let step : (k : ℕ) → k < n → T (rises_at offsets k) =
    λ k l. le→leb (get_or offsets k 0) (get_or offsets (k + 1) 0) (omega (arith, offsets-rise 0 s.lists k (omega arith), ap (λ (i : ℕ). get_or offsets i 0) (add-one k))) in
    let last : get_or offsets n 0 ≡ length (joined s.lists) = omega (arith, offsets-last 0 s.lists, ap (λ (i : ℕ). get_or offsets i 0) e) in
    rw (eq-eqb _ _ (offsets-start 0 s.lists), true-T (all_to n (rises_at offsets)) (all_of (rises_at offsets) n step), eq-eqb _ _ last)

-- as there are in the bytes of a sheet
module _ (b : List ℕ) (F : Formed b) where
  lists-four : length (sheet_in b).lists ≡ 4 * length (sheet_in b).weights
  unfolding sheet_in
  lists-four = omega (arith, lists_in-length _ _ F.lists, count-is b F)

  pub sheet-offsets : offsets_ok (table_of (sheet_in b)) ≡ true
  sheet-offsets = offsets-ok (sheet_in b) lists-four

  pub sheet-laid : Laid (table_of (sheet_in b))
  unfolding table_of
  sheet-laid = laid (table_of (sheet_in b)) (omega (arith, offsets-many b F, count-is b F)) sheet-offsets
