-- Entropy in binary32, one rounding per operation. Follows docs/RULES.md, "Entropy".
-- Assumes nothing.
use Rattle.std.specs.Prelude.{cond, List, ℕ, zero, suc, eqb, Float, pos, length, Option, None, Some}
use Rattle.std.specs.Float.{binary32}
use Rattle.std.specs.Float.Ieee.{add, sub, mul, div, of_int, of_bits}
use Rattle.loops.specs.Loops.{steps}
use Rattle.words.specs.Words.{has}
use Rattle.adjacency.specs.Weights.{weight_of, weight_sum}
use Rattle.logarithms.specs.Logs.{log_of}

-- ---- running values

-- w log w: a weight times its logarithm
unfoldable pub w_log_w : ℕ → Float
unfolding log_of
w_log_w w = mul binary32 (of_int binary32 (pos w)) (log_of w)

-- a value with w log w added; a weight of 0 takes no part
unfoldable pub plus : Float → ℕ → Float
unfolding w_log_w
plus x w = cond (eqb w 0) x (add binary32 x (w_log_w w))

-- a value with w log w taken away; a weight of 0 takes no part
unfoldable pub minus : Float → ℕ → Float
unfolding w_log_w
minus x w = cond (eqb w 0) x (sub binary32 x (w_log_w w))

-- a value with pattern p added
unfoldable pub added_at : List ℕ → ℕ → Float → Float
unfolding plus
added_at weights p x = plus x (weight_of weights p)

-- the running value of all patterns: w log w summed upward from +0
unfoldable pub running : List ℕ → Float
unfolding steps added_at
running weights = steps (added_at weights) 0 (length weights) (of_bits binary32 0)

-- a value with pattern p taken away, where the word lacks it
unfoldable pub missing_at : List ℕ → ℕ → ℕ → Float → Float
unfolding has minus
missing_at weights w p x = cond (has w p) x (minus x (weight_of weights p))

-- the running value less the patterns that a word lacks, taken away upward
unfoldable pub less : List ℕ → ℕ → Float
unfolding steps missing_at running
less weights w = steps (missing_at weights w) 0 (length weights) (running weights)

-- ---- entropy

-- log2 of the weight sum, minus the running value divided by the sum
unfoldable pub entropy : ℕ → Float → Float
unfolding log_of
entropy sum value = sub binary32 (log_of sum) (div binary32 value (of_int binary32 (pos sum)))

-- the entropy of a sum and a running value; none where there is no weight
unfoldable pub entropy_if : ℕ → Float → Option Float
unfolding entropy
entropy_if zero value = None
entropy_if (suc sum) value = Some (entropy (suc sum) value)

-- the entropy of a word asked apart from a run
unfoldable pub entropy_of : List ℕ → ℕ → Option Float
unfolding entropy_if weight_sum less
entropy_of weights w = entropy_if (weight_sum weights w) (less weights w)
