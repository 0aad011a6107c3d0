-- Words that follow from a seed: word number k is the counter's value after k + 1 steps, mixed. Follows docs/RULES.md, "Programs".
-- Assumes nothing.
use Rattle.std.specs.Prelude.{ℕ, zero, suc, ◌+◌, ◌*◌, ◌/◌, ◌%◌, ◌^◌, List, [], ◌∷◌, ◌++◌, bit_xor}

-- the counter's next value: the step is 2^32 divided by the golden ratio, made odd
unfoldable pub stepped : ℕ → ℕ
stepped x = (x + 2654435769) % 2 ^ 32

-- the counter after so many steps
unfoldable pub after : ℕ → ℕ → ℕ
unfolding stepped
after x zero = x
after x (suc n) = stepped (after x n)

-- the bits, with those from bit `by` on laid over the lowest
unfoldable pub laid : ℕ → ℕ → ℕ
laid by x = bit_xor x (x / 2 ^ by)

-- the lowest 32 bits of a product
unfoldable pub scaled : ℕ → ℕ → ℕ
scaled factor x = x * factor % 2 ^ 32

-- the finaliser of MurmurHash3
unfoldable pub mixed : ℕ → ℕ
unfolding laid scaled
mixed x = laid 16 (scaled 3266489909 (laid 13 (scaled 2246822507 (laid 16 x))))

-- the first n words of a seed
unfoldable pub words_of : ℕ → ℕ → List ℕ
unfolding after mixed
words_of x zero = []
words_of x (suc n) = words_of x n ++ (mixed (after x (suc n)) ∷ [])

-- words, and the counter after them
pub record Strip : Type 0 where
  pub words : List ℕ
  pub state : ℕ

abbrev pub strip : List ℕ → ℕ → Strip
strip words state = record { words = words; state = state }

-- n words of a seed, and the counter after them, from which the next words follow
unfoldable pub drawn : ℕ → ℕ → Strip
unfolding words_of after
drawn x n = strip (words_of x n) (after x n)

-- noise and words of a run
pub record Both : Type 0 where
  pub noise : List ℕ
  pub words : List ℕ

abbrev pub both : List ℕ → List ℕ → Both
both noise words = record { noise = noise; words = words }

-- the first n words of a seed are the noise, and the m words that follow are the words
unfoldable pub drawn_both : ℕ → ℕ → ℕ → Both
unfolding words_of after
drawn_both x n m = both (words_of x n) (words_of (after x n) m)
