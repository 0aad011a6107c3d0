-- Laws of payloads: from its first byte on, what is asked of a payload of so many bytes and of what follows it: of weights, of lists, and of the grid.
-- Assumes nothing.
use mathlib.Core.Bool.{Bool, true, false, ◌&&◌, and_assoc}
use mathlib.Core.List.{List, [], ◌∷◌}
use mathlib.Core.Path.{◌≡◌, refl, sym, ap, ◌∙◌}
use Prim.Native.Nat.{ℕ, zero, suc, ◌+◌, ◌-◌, ◌*◌, ◌≤◌, ◌<◌}
use native.Mathlib.Omega.{arith}
use lib.Dec.{leb, ltb, eqb, leb-zero, leb-suc-zero, leb-suc-suc, eqb-suc-zero}
use lib.ListN.{length, take, drop, length-take, length-drop}
use lib.Seq.{take-nil, drop-drop, length-take-le}
use borrow.Author.Tests.{leb-true, eqb-true, le-leb, lt-leb, eq-eqb, ne_eqb}
use Rattle.records.specs.Numbers.{u16At}
use Rattle.layout.specs.Reading.{weights_fit, lists_fit, grid_fits}
use Rattle.loops.specs.Loops.{each}
use Rattle.scan.specs.declared.inner.Scan.TheVariants.{Head, Count}
use Rattle.scan.specs.Scanning.{passing, listing, gridding, within, counted, listed, step, past, formed}
use Rattle.layout.proofs.ShapeLaws.{weights-short}
use Rattle.scan.proofs.AfterLaws.{after, alike, where_passed, none, unless, by_order, after-cond, after_passing, after-within}

-- ---- so many bytes, and no other number of them

exactly : (m n : ℕ) (p : List ℕ) (rest : List ℕ → Bool)
    → eqb m n && (leb n (length p) && rest (drop n p)) ≡ leb m (length p) && (eqb (length (take m p)) n && rest (drop m p))
exactly m n p rest = by_order m (length p) inside outside
  where
    inside : m ≤ length p → eqb m n && (leb n (length p) && rest (drop n p)) ≡ eqb (length (take m p)) n && rest (drop m p)
    inside h = rw (length-take-le m p h) (where_passed (eqb m n) (λ e. let same = eqb-true m n e in rw (same, le-leb n (length p) (omega arith))))

    outside : length p < m → eqb m n && (leb n (length p) && rest (drop n p)) ≡ false
    outside h = unless (eqb m n) (λ e. rw (lt-leb n (length p) (omega (arith, eqb-true m n e))))

-- ---- P and as many weights

-- where there is no P
few : (m : ℕ) (p : List ℕ) (rest : Bool) → length (take m p) < 2 → leb m (length p) && (weights_fit (take m p) && rest) ≡ false
few m p rest h = rw (sym (weights-short (take m p) h)) (none (leb m (length p)))

eqb-two : (m n : ℕ) → eqb (suc (suc m)) (2 + n) ≡ eqb m n
eqb-two m n =
    alike (eqb (suc (suc m)) (2 + n)) (eqb m n) (λ e. eq-eqb m n (omega (arith, eqb-true (suc (suc m)) (2 + n) e)))
    (λ e. eq-eqb (suc (suc m)) (2 + n) (omega (arith, eqb-true m n e)))

after-counted : (m c : ℕ) (q : List ℕ) → after (counted m c) q ≡ eqb m (2 + 2 * c) && (leb (2 * c) (length q) && after (Head 2 (4 * c) 0 0) (drop (2 * c) q))
unfolding counted
after-counted m c q =
    after-cond (eqb m (2 + 2 * c)) (passing (2 * c) 2 (4 * c)) q ∙ ap (λ (t : Bool). eqb m (2 + 2 * c) && t) (after_passing (2 * c) 2 (4 * c) q)

pub weights-held : (m : ℕ) (p : List ℕ)
    → after (Count m) p ≡ leb m (length p) && (weights_fit (take m p) && after (Head 2 (4 * u16At (take m p) 0) 0 0) (drop m p))
unfolding past each step formed weights_fit u16At
weights-held m [] = sym (few m [] _ (omega (arith, length-take {A = ℕ} m [])))
weights-held m (x ∷ []) = sym (few m (x ∷ []) _ (omega (arith, length-take m (x ∷ []))))
weights-held zero (x ∷ y ∷ q) =
    after-counted 0 (x + 256 * y) q ∙ rw (ne_eqb 0 (2 + 2 * (x + 256 * y)) (λ e. omega arith)) (sym (none (leb 0 (length (x ∷ y ∷ q)))))
weights-held (suc zero) (x ∷ y ∷ q) =
    after-counted 1 (x + 256 * y) q ∙ rw (ne_eqb 1 (2 + 2 * (x + 256 * y)) (λ e. omega arith)) (sym (none (leb 1 (length (x ∷ y ∷ q)))))
weights-held (suc (suc m)) (x ∷ y ∷ q) =
    let c = x + 256 * y in
    after-counted (suc (suc m)) c q
    ∙ rw (eqb-two m (2 * c), leb-suc-suc (suc m) (suc (length q)), leb-suc-suc m (length q))
    (rw (le-leb 2 (suc (suc (length (take m q)))) (omega arith), eqb-two (length (take m q)) (2 * c)) (exactly m (2 * c) q (after (Head 2 (4 * c) 0 0))))

-- ---- lists

drop-take : (n m : ℕ) (l : List ℕ) → drop n (take m l) ≡ take (m - n) (drop n l)
drop-take zero m l = let same : m ≡ m - 0 = omega arith in ap (λ (k : ℕ). take k l) same
drop-take (suc n) zero l = let none_left : 0 - suc n ≡ 0 = omega arith in sym (ap (λ (k : ℕ). take k (drop (suc n) l)) none_left)
drop-take (suc n) (suc m) [] = sym (take-nil (suc m - suc n))
drop-take (suc n) (suc m) (x ∷ l) = let same : m - n ≡ suc m - suc n = omega arith in drop-take n m l ∙ ap (λ (k : ℕ). take k (drop n l)) same

-- a list of x bytes and those after it, where m bytes are left
module _ (x m lists : ℕ) (q : List ℕ) (rest : List ℕ → Bool) where
  list_inside : m ≤ length q
      → leb x m && (leb x (length q) && (leb (m - x) (length (drop x q)) && (lists_fit lists (take (m - x) (drop x q)) && rest (drop (m - x) (drop x q)))))
      ≡ (leb x (length (take m q)) && lists_fit lists (drop x (take m q))) && rest (drop m q)
  list_inside h = rw (length-take-le m q h, drop-take x m q) (where_passed (leb x m) fits ∙ sym (and_assoc (leb x m) _ (rest (drop m q))))
    where
      fits : leb x m ≡ true
          → leb x (length q) && (leb (m - x) (length (drop x q)) && (lists_fit lists (take (m - x) (drop x q)) && rest (drop (m - x) (drop x q))))
          ≡ lists_fit lists (take (m - x) (drop x q)) && rest (drop m q)
      fits e =
          let le : x ≤ m = leb-true x m e in
          let all : x + (m - x) ≡ m = omega arith in
          rw (le-leb x (length q) (omega arith), le-leb (m - x) (length (drop x q)) (omega (arith, length-drop x q)), drop-drop (m - x) x q, all)

  list-outside : length q < m → (t : Bool) → leb x m && (leb x (length q) && (leb (m - x) (length (drop x q)) && t)) ≡ false
  list-outside h t = unless (leb x m) (λ e. unless (leb x (length q)) (λ f. rw (over (leb-true x m e) (leb-true x (length q) f))))
    where
      over : x ≤ m → x ≤ length q → leb (m - x) (length (drop x q)) ≡ false
      over e f = lt-leb (m - x) (length (drop x q)) (omega (arith, length-drop x q))

pub lists-held : (lists m : ℕ) (p : List ℕ)
    → after (listing m lists) p ≡ leb m (length p) && (lists_fit lists (take m p) && after (Head 3 0 0 0) (drop m p))
unfolding past each step formed listing listed lists_fit
lists-held zero zero p = rw (leb-zero (length p))
lists-held zero (suc m) [] = after-cond (eqb (suc m) 0) (Head 3 0 0 0) [] ∙ rw (leb-suc-zero m) (none (eqb (suc m) 0))
lists-held zero (suc m) (x ∷ q) = after-cond (eqb (suc m) 0) (Head 3 0 0 0) (x ∷ q) ∙ rw (eqb-suc-zero m) (sym (none (leb (suc m) (suc (length q)))))
lists-held (suc lists) zero [] = refl
lists-held (suc lists) (suc m) [] = rw (leb-suc-zero m)
lists-held (suc lists) zero (x ∷ q) = after-cond (ltb x 0) (within x (0 - 1 - x) lists) q ∙ rw (leb-suc-zero x) (sym (none (leb 0 (suc (length q)))))
lists-held (suc lists) (suc m) (x ∷ q) =
    let n = suc m - 1 - x in
    let left : n ≡ m - x = omega arith in
    let rest = after (Head 3 0 0 0) in
    after-cond (ltb x (suc m)) (within x n lists) q
    ∙ ap (λ (t : Bool). ltb x (suc m) && t) (after-within x n lists q ∙ ap (λ (t : Bool). leb x (length q) && t) (lists-held lists n (drop x q)))
    ∙ rw (left, leb-suc-suc x m, leb-suc-suc m (length q))
    (by_order m (length q) (list_inside x m lists q rest) (λ h. list-outside x m lists q rest h _))

-- ---- the grid

pub grid-held : (m : ℕ) (p : List ℕ)
    → after (gridding m) p ≡ leb m (length p) && (grid_fits (take m p) && after (Head 4 0 0 0) (drop m p))
unfolding gridding grid_fits
grid-held m p = after-cond (eqb m 6) (passing 6 4 0) p ∙ ap (λ (t : Bool). eqb m 6 && t) (after_passing 6 4 0 p) ∙ exactly m 6 p (after (Head 4 0 0 0))
