-- The choice of a pattern: a word decides among the weighted patterns of a domain. Follows docs/RULES.md, "Run".
-- Assumes nothing.
use Rattle.std.specs.Prelude.{cond, List, ℕ, zero, suc, ◌+◌, ◌-◌, ◌*◌, ◌%◌, ltb, length, get_or, Option, None, Some}
use Rattle.words.specs.Words.{bit}
use Rattle.adjacency.specs.Weights.{weight_of}

-- ---- the draw

-- what a draw gives: the number that decides, and how many words are used after it
pub record Draw : Type 0 where
  pub number : ℕ
  pub used : ℕ

-- the word after those used decides, modulo the sum; none where no word is left
unfoldable pub draw : List ℕ → ℕ → ℕ → Option Draw
draw words used sum = cond (ltb used (length words)) (Some (record { number = get_or words used 0 % sum; used = used + 1 })) None

-- ---- what a number takes

-- the weight of pattern p in a word: 0 where it is not in it
abbrev pub weight_in : List ℕ → ℕ → ℕ → ℕ
weight_in weights w p = bit w p * weight_of weights p

-- among n patterns from p on: the first whose weight is greater than r, which is lowered by each weight that it reaches
unfoldable pub taken_from : List ℕ → ℕ → ℕ → ℕ → ℕ → Option ℕ
unfolding bit
taken_from weights w zero p r = None
taken_from weights w (suc n) p r = cond (ltb r (weight_in weights w p)) (Some p) (taken_from weights w n (suc p) (r - weight_in weights w p))

unfoldable pub taken : List ℕ → ℕ → ℕ → Option ℕ
unfolding taken_from
taken weights w r = taken_from weights w (length weights) 0 r
