-- How often a number stands in a list: once where it is in an ascending list; all counts add up to the length; and agreement, as counts.
-- Follows docs/RULES.md, "Tables".
-- Assumes nothing.
use mathlib.Core.Bool.{Bool, true, false, cond}
use mathlib.Core.List.{List, [], ◌∷◌}
use mathlib.Core.Path.{◌≡◌, refl, sym, ap, ◌∙◌}
use Prim.Native.Nat.{ℕ, ◌+◌, ◌≤◌, ◌<◌}
use native.Mathlib.Decide.{ℕ_discrete}
use native.Mathlib.Omega.{arith}
use lib.Dec.{T}
use lib.ListN.{length}
use borrow.Author.Tests.{eq-eqb, ne_eqb}
use Rattle.loops.specs.Sums.{sum_to}
use Rattle.loops.specs.Tests.{elem}
use Rattle.directions.specs.Directions.{opposite}
use Rattle.adjacency.specs.Tables.{Table, list_of}
use Rattle.adjacency.specs.Accepted.{AllBelow, AllAbove, Ascends, Accepted}
use Rattle.loops.proofs.SumLaws.{same, same_yes, same_no, sum-at, sum-zero}
use Rattle.directions.proofs.DirectionLaws.{opposite-below}
use Rattle.adjacency.proofs.AcceptedLaws.{agree-both}

-- how often q stands in a list
unfoldable pub times : ℕ → List ℕ → ℕ
unfolding same
times q [] = 0
times q (x ∷ l) = same q x + times q l

-- a number stands in a list exactly where its count is positive
pub elem-pos : (q : ℕ) (l : List ℕ) → T (elem q l) → 0 < times q l
unfolding times elem
elem-pos q [] h = absurd h
elem-pos q (x ∷ l) h =
    elim (ℕ_discrete q x) [
      | yes e ↦ omega (arith, same_yes q x e)
      | no e ↦ omega (arith, elem-pos q l (rw (ne_eqb q x e) at h))
    ]

pub pos-elem : (q : ℕ) (l : List ℕ) → 0 < times q l → T (elem q l)
unfolding times elem
pos-elem q [] h = absurd (omega arith)
pos-elem q (x ∷ l) h =
    elim (ℕ_discrete q x) [
      | yes e ↦ rw (eq-eqb q x e) tt
      | no e ↦ rw (ne_eqb q x e) (pos-elem q l (omega (arith, same_no q x e)))
    ]

-- what is above x has no x
times_above : (q x : ℕ) (l : List ℕ) → q ≤ x → AllAbove x l → times q l ≡ 0
unfolding times
times_above q x [] h a = refl
times_above q x (y ∷ l) h a = omega (arith, same_no q y (λ e. omega arith), times_above q x l h a.1)

-- in an ascending list a number stands once, or not at all
pub times-elem : (q : ℕ) (l : List ℕ) → Ascends l → times q l ≡ cond (elem q l) 1 0
unfolding times elem
times-elem q [] a = refl
times-elem q (x ∷ l) a =
    elim (ℕ_discrete q x) [
      | yes e ↦ rw (eq-eqb q x e) (omega (arith, same_yes q x e, times_above q x l (omega arith) a.0))
      | no e ↦ rw (ne_eqb q x e) (omega (arith, same_no q x e, times-elem q l a.1))
    ]

-- the counts of all numbers below n add up to the length
pub times-sum : (n : ℕ) (l : List ℕ) → AllBelow n l → sum_to n (λ i. times i l) ≡ length l
unfolding times
times-sum n [] a = sum-zero n _ (λ i k. refl)
times-sum n (x ∷ l) a =
    omega (
      arith,
      sum-at n (λ i. times i (x ∷ l)) (λ i. times i l) x a.0 (λ i k e. omega (arith, same_no i x e)),
      same_yes x x refl,
      times-sum n l a.1,
    )

-- two tests that imply each other
same_test : (a b : Bool) → (T a → T b) → (T b → T a) → a ≡ b
same_test true true f g = refl
same_test true false f g = absurd (f tt)
same_test false true f g = absurd (g tt)
same_test false false f g = refl

-- agreement, as counts
pub times-agree : (t : Table) → Accepted t → (p q d : ℕ) → p < t.count → q < t.count → d < 4 → times q (list_of t p d) ≡ times p (list_of t q (opposite d))
times-agree t ok p q d hp hq hd =
    let (there, back) = agree-both t ok p q d hp hq hd in
    times-elem q (list_of t p d) (ok.listed.ascends p d hp hd)
    ∙ ap (λ b. cond b 1 0) (same_test (elem q (list_of t p d)) (elem p (list_of t q (opposite d))) there back)
    ∙ sym (times-elem p (list_of t q (opposite d)) (ok.listed.ascends q (opposite d) hq (opposite-below d hd)))
