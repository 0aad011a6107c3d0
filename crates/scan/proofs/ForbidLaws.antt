-- Laws of the forbids: from the first byte of their payload on, they are six bytes each, the last two of which are 0 or 1, and nothing follows.
-- Assumes nothing.
use mathlib.Core.Bool.{Bool, true, false, ◌&&◌, and_assoc, and_comm}
use mathlib.Core.List.{List, [], ◌∷◌}
use mathlib.Core.Path.{◌≡◌, refl, sym, ap, subst, ◌∙◌}
use Prim.Native.Nat.{ℕ, zero, suc, ◌+◌, ◌*◌, ◌/◌, ◌%◌, ◌≤◌, ◌<◌}
use native.Mathlib.Omega.{arith}
use lib.Dec.{leb, eqb, eqb-suc-zero}
use lib.ListN.{length, take, drop, length-drop}
use lib.Seq.{take_all, length-take-le}
use borrow.Author.Tests.{leb-true, eqb-true, le-leb, eq-eqb, ne_eqb}
use Rattle.records.specs.Numbers.{numbers_in}
use Rattle.layout.specs.Reading.{kinds_fit, forbids_fit}
use Rattle.loops.specs.Loops.{each}
use Rattle.scan.specs.declared.inner.Scan.TheVariants.{Forbids}
use Rattle.scan.specs.Scanning.{forbidding, kind_fits, forbidden, step, past, formed}
use Rattle.loops.proofs.TestLaws.{both}
use Rattle.scan.proofs.AfterLaws.{after, alike, where_passed, none, unless, by_order, after-bad, after-cond}

-- a byte more
forbid-byte : (n x : ℕ) (b : List ℕ) → after (Forbids (suc n)) (x ∷ b) ≡ kind_fits (suc n % 6) x && after (Forbids n) b
unfolding past each step forbidden
forbid-byte n x b = after-cond (kind_fits (suc n % 6) x) (Forbids n) b

-- too few bytes
forbids-cut : (n : ℕ) (p : List ℕ) → length p < n → after (Forbids n) p ≡ false
unfolding past each formed
forbids-cut zero p h = absurd (omega arith)
forbids-cut (suc n) [] h = eqb-suc-zero n
forbids-cut (suc n) (x ∷ p) h = forbid-byte n x p ∙ unless (kind_fits (suc n % 6) x) (λ e. forbids-cut n p (omega arith))

-- ---- forbid by forbid

-- a kind in two bytes
kind_fits_lem : (x y : ℕ) → leb (x + 256 * y) 1 ≡ leb x 1 && eqb y 0
kind_fits_lem x y =
    alike (leb (x + 256 * y) 1) (leb x 1 && eqb y 0)
    (λ e. let h : x + 256 * y ≤ 1 = leb-true (x + 256 * y) 1 e in rw (le-leb x 1 (omega arith), eq-eqb y 0 (omega arith)))
    (λ e. let (p, q) = both (leb x 1) (eqb y 0) e in le-leb (x + 256 * y) 1 (omega (arith, leb-true x 1 p, eqb-true y 0 q)))

abbrev six : ℕ → ℕ
six n = suc (suc (suc (suc (suc (suc n)))))

eqb-six : (m n : ℕ) → eqb (six m) (six n) ≡ eqb m n
eqb-six m n =
    alike (eqb (six m) (six n)) (eqb m n) (λ e. eq-eqb m n (omega (arith, eqb-true (six m) (six n) e)))
    (λ e. eq-eqb (six m) (six n) (omega (arith, eqb-true m n e)))

regroup : (x y z w : Bool) → x && (y && (z && w)) ≡ z && ((x && y) && w)
regroup true true z w = refl
regroup true false z w = sym (none z)
regroup false y z w = sym (none z)

module _ (n : ℕ) where
  short : (p : List ℕ) → length p < 6 → after (Forbids (six (6 * n))) p ≡ eqb (length p) (six (6 * n)) && kinds_fit (numbers_in p)
  short p h = forbids-cut (six (6 * n)) p (omega arith) ∙ sym (rw (ne_eqb (length p) (six (6 * n)) (λ e. omega arith)))

  -- a forbid before others
  forbid_more : ((q : List ℕ) → after (Forbids (6 * n)) q ≡ eqb (length q) (6 * n) && kinds_fit (numbers_in q)) → (p : List ℕ)
      → after (Forbids (six (6 * n))) p ≡ eqb (length p) (six (6 * n)) && kinds_fit (numbers_in p)
  unfolding kind_fits kinds_fit numbers_in
  forbid_more rest [] = short [] (omega arith)
  forbid_more rest (a ∷ []) = short (a ∷ []) (omega arith)
  forbid_more rest (a ∷ b ∷ []) = short (a ∷ b ∷ []) (omega arith)
  forbid_more rest (a ∷ b ∷ c ∷ []) = short (a ∷ b ∷ c ∷ []) (omega arith)
  forbid_more rest (a ∷ b ∷ c ∷ d ∷ []) = short (a ∷ b ∷ c ∷ d ∷ []) (omega arith)
  forbid_more rest (a ∷ b ∷ c ∷ d ∷ e ∷ []) = short (a ∷ b ∷ c ∷ d ∷ e ∷ []) (omega arith)
  forbid_more rest (a ∷ b ∷ c ∷ d ∷ e ∷ f ∷ q) =
      let r₁ : suc (6 * n) % 6 ≡ 1 = omega arith in
      let r₂ : suc (suc (6 * n)) % 6 ≡ 2 = omega arith in
      let r₃ : suc (suc (suc (6 * n))) % 6 ≡ 3 = omega arith in
      let r₄ : suc (suc (suc (suc (6 * n)))) % 6 ≡ 4 = omega arith in
      let r₅ : suc (suc (suc (suc (suc (6 * n))))) % 6 ≡ 5 = omega arith in
      let r₆ : six (6 * n) % 6 ≡ 0 = omega arith in
      rw (forbid-byte _ a (b ∷ c ∷ d ∷ e ∷ f ∷ q), r₆, forbid-byte _ b (c ∷ d ∷ e ∷ f ∷ q), r₅, forbid-byte _ c (d ∷ e ∷ f ∷ q), r₄)
      (rw (forbid-byte _ d (e ∷ f ∷ q), r₃, forbid-byte _ e (f ∷ q), r₂, forbid-byte _ f q, r₁, rest q, eqb-six (length q) (6 * n), kind_fits_lem e f)
      (regroup (leb e 1) (eqb f 0) (eqb (length q) (6 * n)) (kinds_fit (numbers_in q))))

after-forbids : (n : ℕ) (p : List ℕ) → after (Forbids (6 * n)) p ≡ eqb (length p) (6 * n) && kinds_fit (numbers_in p)
unfolding past each step forbidden formed kinds_fit numbers_in
after-forbids zero [] = refl
after-forbids zero (x ∷ p) = after-bad p ∙ sym (rw (eqb-suc-zero (length p)))
after-forbids (suc n) p =
    let next : six (6 * n) ≡ 6 * suc n = omega arith in
    subst (λ (m : ℕ). after (Forbids m) p ≡ eqb (length p) m && kinds_fit (numbers_in p)) next (forbid_more n (after-forbids n) p)

-- ---- the payload

-- as many bytes as are forbids, where there are no fewer
after_sixes : (m : ℕ) (p : List ℕ) → m ≤ length p → m % 6 ≡ 0 → after (Forbids m) p ≡ kinds_fit (numbers_in (take m p)) && eqb (length (drop m p)) 0
after_sixes m p h e =
    let sixes : 6 * (m / 6) ≡ m = omega arith in
    let same : eqb (length p) m ≡ eqb (length (drop m p)) 0 = alike (eqb (length p) m) (eqb (length (drop m p)) 0)
    (λ t. eq-eqb (length (drop m p)) 0 (omega (arith, length-drop m p, eqb-true (length p) m t)))
    (λ t. eq-eqb (length p) m (omega (arith, length-drop m p, eqb-true (length (drop m p)) 0 t))) in
    subst (λ (n : ℕ). after (Forbids n) p ≡ eqb (length p) n && kinds_fit (numbers_in p)) sixes (after-forbids (m / 6) p)
    ∙ where_passed (eqb (length p) m) (λ t. ap (λ (l : List ℕ). kinds_fit (numbers_in l)) (sym (take_all m p (omega (arith, eqb-true (length p) m t)))))
    ∙ and_comm (eqb (length p) m) (kinds_fit (numbers_in (take m p)))
    ∙ ap (λ (t : Bool). kinds_fit (numbers_in (take m p)) && t) same

pub forbids-held : (m : ℕ) (p : List ℕ)
    → after (forbidding m) p ≡ leb m (length p) && (forbids_fit (take m p) && eqb (length (drop m p)) 0)
unfolding forbidding forbids_fit
forbids-held m p =
    let fit = eqb (m % 6) 0 && leb m 24576 in
    after-cond fit (Forbids m) p
    ∙ by_order m (length p)
    (λ h.
    and_assoc (eqb (m % 6) 0) (leb m 24576) (after (Forbids m) p)
    ∙ where_passed (eqb (m % 6) 0) (λ e. ap (λ (t : Bool). leb m 24576 && t) (after_sixes m p h (eqb-true (m % 6) 0 e)))
    ∙ rw (length-take-le m p h) (simp and_assoc))
    (λ h. rw (forbids-cut m p h) (none fit))
