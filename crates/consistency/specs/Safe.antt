-- What every state of a propagation satisfies, so that no step of the code fails: the lengths fit, a pattern that is gone has no supports,
-- and there is room for what may still be removed. It says nothing of what the counts count. Assumes nothing.
use Rattle.std.specs.Prelude.{List, [], ◌∷◌, ◌≡◌, ℕ, ◌+◌, ◌*◌, ◌≤◌, ◌<◌, length, get_or}
use Rattle.loops.specs.Sums.{sum_to}
use Rattle.consistency.specs.Domains.{possible, emptied, Fit}
use Rattle.consistency.specs.Worklist.{Removal, State, place}

-- how many patterns are possible in all, of P at each of n cells
unfoldable pub total : ℕ → ℕ → List ℕ → ℕ
unfolding sum_to
total P n D = sum_to n (λ c. sum_to P (λ p. possible D c p))

-- removals of P patterns at n cells
abbrev pub Inside : ℕ → ℕ → List Removal → Type 0
Inside P n [] = Unit {0}
Inside P n (u ∷ us) = (u.cell < n) × (u.pattern < P) × Inside P n us

-- `M` bounds the removals still to be propagated: those pending, and one for each pattern possible
pub record Safe (P n : ℕ) {X : Type 0} (M : ℕ) (s : State X) : Type 0 where
  pub sized : length s.counts ≡ n * P * 4
  pub fit : Fit P n s.domains
  pub inside : Inside P n s.pending
  pub room : length s.pending + total P n s.domains ≤ M
  pub dead : (c q d : ℕ) → c < n → q < P → d < 4 → possible s.domains c q ≡ 0 → get_or s.counts (place P c q d) 0 ≡ 0
  pub told : s.empty ≡ emptied s.domains
