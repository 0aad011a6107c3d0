-- Laws of the lists of removals: which patterns they ask for and which they spare, that they are of the grid, and that lists may be joined.
-- Follows docs/RULES.md, "Propagation". Assumes nothing.
use mathlib.Core.Bool.{Bool, true, false, cond, false≢true}
use mathlib.Core.List.{List, [], ◌∷◌, ◌++◌}
use mathlib.Core.Logic.{◌↔◌}
use mathlib.Core.Path.{◌≡◌, refl, sym, ap, ◌∙◌}
use Prim.Native.Nat.{ℕ, zero, suc, ◌+◌, ◌≤◌, ◌<◌}
use native.Mathlib.Decide.{ℕ_discrete}
use native.Mathlib.Omega.{arith}
use lib.Arith.{lt_of_le-ne}
use lib.Dec.{eqb}
use lib.ListN.{length, get_or}
use borrow.Author.Tests.{eqb-true, eq-eqb}
use Rattle.words.specs.Words.{bit, has}
use Rattle.consistency.specs.Worklist.{Removal, removal}
use Rattle.consistency.specs.Start.{failing, others, missing}
use Rattle.consistency.specs.Parts.{Spared}
use Rattle.consistency.specs.Safe.{Inside}
use Rattle.words.proofs.BitLaws.{has-true, true-has}

-- ---- one list after another

module _ (P n : ℕ) where
  pub inside-append : (us vs : List Removal) → Inside P n us → Inside P n vs → Inside P n (us ++ vs)
  inside-append [] vs i j = j
  inside-append (u ∷ us) vs i j = (i.0, i.1, inside-append us vs i.2 j)

  pub inside-parts : (us vs : List Removal) → Inside P n (us ++ vs) → Inside P n us × Inside P n vs
  inside-parts [] vs i = (tt, i)
  inside-parts (u ∷ us) vs i = let (j, k) = inside-parts us vs i.2 in ((i.0, i.1, j), k)

pub spared-append : (us vs : List Removal) (c p : ℕ) → Spared (us ++ vs) c p ↔ (Spared us c p × Spared vs c p)
spared-append [] vs c p = (λ h. (tt, h), λ h. h.1)
spared-append (u ∷ us) vs c p =
    let k = spared-append us vs c p in
    (λ h. ((h.0, (k.0 h.1).0), (k.0 h.1).1), λ h. (h.0.0, k.1 (h.0.1, h.1)))

-- ---- patterns that fail a test

module _ (test : ℕ → Bool) where
  pub failing-inside : (P m n i c : ℕ) → c < m → i + n ≤ P → Inside P m (failing test n i c)
  unfolding failing
  failing-inside P m zero i c h l = tt
  failing-inside P m (suc n) i c h l = go (test i) (failing-inside P m n (suc i) c h (omega arith))
    where
      go : (b : Bool) → Inside P m (failing test n (suc i) c) → Inside P m (cond b (failing test n (suc i) c) (removal c i ∷ failing test n (suc i) c))
      go true j = j
      go false j = (h, omega arith, j)

  -- spared are the patterns that pass it
  pub spared-failing : (n i c m p : ℕ) → Spared (failing test n i c) m p ↔ (m ≡ c → i ≤ p → p < i + n → test p ≡ true)
  unfolding failing
  spared-failing zero i c m p = (λ _ e h l. absurd (omega arith), λ _. tt)
  spared-failing (suc n) i c m p = go (test i) refl (spared-failing n (suc i) c m p)
    where
      go : (b : Bool) → test i ≡ b → Spared (failing test n (suc i) c) m p ↔ (m ≡ c → suc i ≤ p → p < suc i + n → test p ≡ true)
          → Spared (cond b (failing test n (suc i) c) (removal c i ∷ failing test n (suc i) c)) m p ↔ (m ≡ c → i ≤ p → p < i + suc n → test p ≡ true)
      go true e k = (
        λ r z h l. elim (ℕ_discrete i p) [ yes y ↦ ap test (sym y) ∙ e | no y ↦ k.0 r z (lt_of_le-ne h y) (omega arith) ],
        λ f. k.1 (λ z h l. f z (omega arith) (omega arith)),
      )
      go false e k = (
        λ r z h l. k.0 r.1 z (lt_of_le-ne h (λ y. r.0 z (sym y))) (omega arith),
        λ f.
            (λ z y. false≢true (sym e ∙ ap test (sym y) ∙ f z (omega arith) (omega arith)), k.1 (λ z h l. f z (omega arith) (omega arith))),
      )

-- ---- all patterns but one

pub others-inside : (P m c p : ℕ) → c < m → Inside P m (others P c p)
unfolding others
others-inside P m c p h = failing-inside (λ i. eqb i p) P m P 0 c h (omega arith)

-- spared is the one pattern, and every other cell
pub spared-others : (P c p m r : ℕ) → r < P → Spared (others P c p) m r ↔ (m ≡ c → r ≡ p)
unfolding others
spared-others P c p m r h =
    let k = spared-failing (λ i. eqb i p) P 0 c m r in
    (λ s e. eqb-true r p (k.0 s e (omega arith) (omega arith)), λ f. k.1 (λ e _ _. eq-eqb r p (f e)))

-- ---- what starting domains lack

pub missing-inside : (P m c : ℕ) (D : List ℕ) → c + length D ≤ m → Inside P m (missing P c D)
unfolding missing
missing-inside P m c [] h = tt
missing-inside P m c (w ∷ D) h =
    inside-append P m (failing (has w) P 0 c) (missing P (suc c) D) (failing-inside (has w) P m P 0 c (omega arith) (omega arith))
    (missing-inside P m (suc c) D (omega arith))

-- spared is what the domains have, the first word being cell c's
pub spared-missing : (P c : ℕ) (D : List ℕ) (m p : ℕ)
    → Spared (missing P c D) m p ↔ ((j : ℕ) → m ≡ c + j → j < length D → p < P → bit (get_or D j 0) p ≡ 1)
unfolding missing
spared-missing P c [] m p = (λ _ j e l h. absurd (omega arith), λ _. tt)
spared-missing P c (w ∷ D) m p =
    let a = spared-append (failing (has w) P 0 c) (missing P (suc c) D) m p in
    let k = spared-failing (has w) P 0 c m p in
    let r = spared-missing P (suc c) D m p in (
      λ s. at (λ e h. has-true w p (k.0 (a.0 s).0 e (omega arith) (omega arith))) (r.0 (a.0 s).1),
      λ f.
          a.1 (k.1 (λ e _ l. true-has w p (f 0 (omega arith) (omega arith) (omega arith))), r.1 (λ j e l h. f (suc j) (omega arith) (omega arith) h)),
    )
  where
    at : (m ≡ c → p < P → bit w p ≡ 1) → ((j : ℕ) → m ≡ suc c + j → j < length D → p < P → bit (get_or D j 0) p ≡ 1)
        → (j : ℕ) → m ≡ c + j → j < length (w ∷ D) → p < P → bit (get_or (w ∷ D) j 0) p ≡ 1
    at first rest zero e l h = first (omega arith) h
    at first rest (suc j) e l h = rest j (omega arith) (omega arith) h
