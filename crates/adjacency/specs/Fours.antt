-- Weight sums of four patterns at a time, lent to code to look up. Follows docs/RULES.md, "Tables".
-- Assumes nothing.
use Rattle.std.specs.Prelude.{List, ◌≡◌, ℕ, ◌+◌, ◌*◌, ◌/◌, ◌%◌, ◌^◌, ◌≤◌, ◌<◌, length, get_or}
use Rattle.adjacency.specs.Weights.{weight_sum}

-- the word of entry e: of the four patterns from 4k on, where k is e / 16, those that the lowest four bits of e name
unfoldable pub four_of : ℕ → ℕ
four_of e = e % 16 * 16 ^ (e / 16)

-- how many entries P patterns take: sixteen for each four, and the fours come four at a time
unfoldable pub sixteens : ℕ → ℕ
sixteens P = (P + 15) / 16 * 64

-- a list of sums for these weights: each entry is the weight sum of its word, every pattern is among some four, and the fours come four at a time
pub record Fours (weights l : List ℕ) : Type 0 where
  pub each : (e : ℕ) → e < length l → get_or l e 0 ≡ weight_sum weights (four_of e)
  pub all_there : 4 * length weights ≤ length l
  pub in_sixteens : length l % 64 ≡ 0

-- the entries of the four fours of a word's lowest sixteen patterns, read from a place on
unfoldable pub fours_from : List ℕ → ℕ → ℕ → ℕ
fours_from l base w =
    get_or l (base + w % 16) 0 + get_or l (base + 16 + w / 16 % 16) 0 + get_or l (base + 32 + w / 256 % 16) 0 + get_or l (base + 48 + w / 4096 % 16) 0
