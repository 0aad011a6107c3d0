-- Weights of patterns: 0 means no weight. Follows docs/RULES.md, "Tables".
-- Assumes nothing.
use Rattle.std.specs.Prelude.{Bool, not, List, ◌≡◌, ℕ, ◌*◌, ◌^◌, ◌≤◌, ◌<◌, eqb, length, get_or}
use Rattle.loops.specs.Sums.{sum_to}
use Rattle.words.specs.Words.{bit, gathered}

-- the weight of pattern p
abbrev pub weight_of : List ℕ → ℕ → ℕ
weight_of weights p = get_or weights p 0

-- the sum of all weights
unfoldable pub whole_weight : List ℕ → ℕ
unfolding sum_to
whole_weight weights = sum_to (length weights) (weight_of weights)

-- the sum of the weights of the patterns in a word
unfoldable pub weight_sum : List ℕ → ℕ → ℕ
unfolding sum_to bit
weight_sum weights w = sum_to (length weights) (λ p. bit w p * weight_of weights p)

-- whether pattern p has weight
unfoldable pub weighted : List ℕ → ℕ → Bool
weighted weights p = not (eqb (weight_of weights p) 0)

-- the word of the patterns that have weight
unfoldable pub mask : List ℕ → ℕ
unfolding gathered weighted
mask weights = gathered (length weights) (weighted weights)

-- what the sum over a word needs to stay in range: few patterns, a whole of at most 1,024, and no pattern in the word past the last
pub record Bounded (weights : List ℕ) (w : ℕ) : Type 0 where
  pub few : length weights ≤ 64
  pub light : whole_weight weights ≤ 1024
  pub inside : w < 2 ^ length weights

-- what the check of weights gives
pub record Weighed (P : ℕ) (weights : List ℕ) : Type 0 where
  pub one_each : length weights ≡ P
  pub light : whole_weight weights ≤ 1024
