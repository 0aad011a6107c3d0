-- The patterns that fail a test, one by one: the list goes by the test's outcomes, is empty where all pass, and begins with the least that fails.
-- Assumes nothing.
use mathlib.Core.Bool.{Bool, true, false, cond, not}
use mathlib.Core.List.{List, [], ◌∷◌}
use mathlib.Core.Path.{◌≡◌, refl, sym, ap, ◌∙◌}
use Prim.Native.Nat.{ℕ, zero, suc, ◌+◌, ◌^◌, ◌≤◌, ◌<◌}
use native.Mathlib.Decide.{ℕ_discrete}
use native.Mathlib.Omega.{arith}
use lib.Arith.{lt_of_le-ne}
use lib.ListN.{length}
use Rattle.words.specs.Words.{bit, has, without, lacked, least}
use Rattle.consistency.specs.Worklist.{Removal, removal}
use Rattle.consistency.specs.Start.{failing}
use Rattle.words.proofs.BitLaws.{bit_not, bit_none, bit-lacked, true-has, false-has}
use Rattle.words.proofs.ChangeLaws.{bit-without, bit-without_other}
use Rattle.words.proofs.LeastLaws.{least-below, least-found}

-- ---- any tests

module _ (test other : ℕ → Bool) where
  -- tests that agree fail the same patterns
  pub failing-agree : (n i c : ℕ) → ((p : ℕ) → i ≤ p → p < i + n → test p ≡ other p) → failing test n i c ≡ failing other n i c
  unfolding failing
  failing-agree zero i c h = refl
  failing-agree (suc n) i c h = rw (h i (omega arith) (omega arith), failing-agree n (suc i) c (λ p l k. h p (omega arith) (omega arith)))

  -- the least pattern that fails stands first; with it passing, the others are left
  pub failing-first : (n i c p : ℕ) → i ≤ p → p < i + n → test p ≡ false → other p ≡ true → ((q : ℕ) → q < p → test q ≡ true)
      → ((q : ℕ) → (q ≡ p → ⊥) → test q ≡ other q) → failing test n i c ≡ removal c p ∷ failing other n i c
  unfolding failing
  failing-first zero i c p l k f t low same = absurd (omega arith)
  failing-first (suc n) i c p l k f t low same =
      elim (ℕ_discrete i p) [
        | yes e ↦ rw (e, f, t) (ap (λ (us : List Removal). removal c p ∷ us) (failing-agree n (suc p) c (λ q a b. same q (λ z. omega arith))))
        | no e ↦
            let passed : test i ≡ true = low i (lt_of_le-ne l e) in
            rw (sym (same i e) ∙ passed, passed) (failing-first n (suc i) c p (lt_of_le-ne l e) (omega arith) f t low same)
      ]

module _ (test : ℕ → Bool) where
  pub failing_none : (n i c : ℕ) → ((p : ℕ) → test p ≡ true) → failing test n i c ≡ []
  unfolding failing
  failing_none zero i c h = refl
  failing_none (suc n) i c h = rw (h i) (failing_none n (suc i) c h)

  pub length-failing : (n i c : ℕ) → length (failing test n i c) ≤ n
  unfolding failing
  length-failing zero i c = omega arith
  length-failing (suc n) i c = go (test i) (length-failing n (suc i) c)
    where
      go : (b : Bool) → length (failing test n (suc i) c) ≤ n → length (cond b (failing test n (suc i) c) (removal c i ∷ failing test n (suc i) c)) ≤ suc n
      go true h = omega arith
      go false h = omega arith

-- ---- the patterns of a word: those that fail not to be in it

-- whether pattern p is not in the word
abbrev pub lacks : ℕ → ℕ → Bool
lacks w p = not (has w p)

module _ (P c : ℕ) where
  -- what a word lacks are the patterns of the word of those
  pub patterns-lacked : (w : ℕ) → w < 2 ^ P → failing (has w) P 0 c ≡ failing (lacks (lacked P w)) P 0 c
  patterns-lacked w h = failing-agree (has w) (lacks (lacked P w)) P 0 c (λ p _ l. at p (omega arith))
    where
      at : (p : ℕ) → p < P → has w p ≡ lacks (lacked P w) p
      at p l =
          elim (ℕ_discrete (bit w p) 1) [
            | yes e ↦ rw (true-has w p e, false-has (lacked P w) p (omega (arith, bit-lacked P w p h l)))
            | no e ↦ rw (false-has w p (bit_not w p e), true-has (lacked P w) p (omega (arith, bit-lacked P w p h l, bit_not w p e)))
          ]

  -- an empty word has none
  pub patterns_none : failing (lacks 0) P 0 c ≡ []
  patterns_none = failing_none (lacks 0) P 0 c (λ p. ap not (false-has 0 p (bit_none p)))

  -- the least pattern of a word stands first
  pub patterns_next : (k w : ℕ) → P ≤ k → w < 2 ^ P → (w ≡ 0 → ⊥)
      → failing (lacks w) P 0 c ≡ removal c (least k w) ∷ failing (lacks (without w (least k w))) P 0 c
  unfolding has
  patterns_next k w l h n =
      let p = least k w in
      let (below, here) = least-found k P w l h n in
      failing-first (lacks w) (lacks (without w p)) P 0 c p (omega arith) (omega arith) (ap not (true-has w p here))
      (ap not (false-has (without w p) p (bit-without w p)))
      (λ q z. ap not (false-has w q (least-below k w q z)))
      (λ q z. rw (bit-without_other w p q z))
