-- What an entropy is computed with in code: the logarithms and the weight sums of fours, lent to be looked up. Follows docs/RULES.md, "Entropy".
-- Assumes nothing.
use Rattle.std.specs.Prelude.{List, ℕ, ◌≤◌, Float, length}
use Rattle.adjacency.specs.Fours.{Fours}
use Rattle.logarithms.specs.Logs.{Logs}

pub record Lookups (weights : List ℕ) (logs : List Float) (sums : List ℕ) : Type 0 where
  pub logs_lent : Logs logs
  pub sums_lent : Fours weights sums
  pub sums_few : length sums ≤ 256
