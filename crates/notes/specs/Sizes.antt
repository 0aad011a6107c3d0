-- What the slices kept beside the domains must be for code: their lengths, and the weights that are read with them.
use Rattle.std.specs.Prelude.{true, List, ◌≡◌, ℕ, ◌+◌, ◌*◌, ◌≤◌, Float, length}
use Rattle.adjacency.specs.Weights.{Weighed, weighted}
use Rattle.notes.specs.Blocks.{blocks}

-- there is room for what is kept beside wherever a pattern has weight
pub record Roomy (n : ℕ) (noise : List ℕ) (floats : List Float) (marks : List ℕ) : Type 0 where
  pub heard : length noise ≡ n
  pub valued : length floats ≡ 2 * n
  pub marked : 2 * n + blocks n ≤ length marks

-- what the weights, the noise and what is kept beside must be; every removal touches its block, with or without weight
pub record Alongside (P n : ℕ) (weights noise : List ℕ) (floats : List Float) (marks : List ℕ) : Type 0 where
  pub weighed : Weighed P weights
  pub marked : 2 * n + blocks n ≤ length marks
  pub roomy : (p : ℕ) → weighted weights p ≡ true → Roomy n noise floats marks
