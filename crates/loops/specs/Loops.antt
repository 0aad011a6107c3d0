-- What a loop computes: a step for each entry of a list, in order, for each number of a range, or until it is done.
-- Assumes nothing.
use Rattle.std.specs.Prelude.{Bool, true, false, List, [], ◌∷◌, ℕ, zero, suc}

module _ {S : Type 0} where
  -- a step for each entry, in the list's order
  unfoldable pub each : (ℕ → S → S) → List ℕ → S → S
  each f [] s = s
  each f (x ∷ xs) s = each f xs (f x s)

  -- the steps for i, i + 1, .., as many as `count`
  unfoldable pub steps : (ℕ → S → S) → ℕ → ℕ → S → S
  steps f i zero s = s
  steps f i (suc count) s = steps f (suc i) count (f i s)

  -- a step at a time until it is done, `fuel` times at most
  unfoldable pub until : (S → Bool) → (S → S) → ℕ → S → S
  until done f zero s = s
  until done f (suc fuel) s = elim (done s) [ true ↦ s | false ↦ until done f fuel (f s) ]
