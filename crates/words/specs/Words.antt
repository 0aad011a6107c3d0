-- A word as a set of patterns, over any width: pattern p is in the word where bit p is set. Follows docs/RULES.md, "Domains".
-- Assumes nothing.
use Rattle.std.specs.Prelude.{Bool, cond, ℕ, zero, suc, ◌+◌, ◌-◌, ◌*◌, ◌/◌, ◌%◌, ◌^◌, leb, eqb}
use Rattle.std.specs.Int.Bits.{bit_or}
use Rattle.loops.specs.Sums.{sum_to}

-- bit p of the word: 1 where pattern p is in it, 0 where it is not
unfoldable pub bit : ℕ → ℕ → ℕ
bit w p = w / 2 ^ p % 2

-- whether pattern p is in the word
unfoldable pub has : ℕ → ℕ → Bool
unfolding bit
has w p = eqb (bit w p) 1

-- the word without pattern p
unfoldable pub without : ℕ → ℕ → ℕ
unfolding bit
without w p = w - bit w p * 2 ^ p

-- the word with pattern p
unfoldable pub joined : ℕ → ℕ → ℕ
unfolding bit
joined w p = w + (1 - bit w p) * 2 ^ p

-- the word of what one of two words has
unfoldable pub union : ℕ → ℕ → ℕ
union v w = bit_or v w

-- the word of pattern p alone
unfoldable pub alone : ℕ → ℕ
alone p = 2 ^ p

-- the word of all of P patterns
unfoldable pub full : ℕ → ℕ
full P = 2 ^ P - 1

-- the word of those of P patterns that are not in the word
unfoldable pub lacked : ℕ → ℕ → ℕ
unfolding full
lacked P w = full P - w

-- the word of those patterns below k at which the test passes
unfoldable pub gathered : ℕ → (ℕ → Bool) → ℕ
unfolding sum_to alone
gathered k f = sum_to k (λ p. cond (f p) (alone p) 0)

-- whether a pattern of P or more is in the word
unfoldable pub beyond : ℕ → ℕ → Bool
beyond P w = leb (2 ^ P) w

-- how many of the patterns below k are in the word
unfoldable pub how_many : ℕ → ℕ → ℕ
unfolding sum_to bit
how_many k w = sum_to k (bit w)

-- the least pattern of the word among c from i on, and i + c where there is none
unfoldable pub least_from : ℕ → ℕ → ℕ → ℕ
unfolding has
least_from zero i w = i
least_from (suc c) i w = cond (has w i) i (least_from c (suc i) w)

-- the least pattern of the word below k, and k where there is none
unfoldable pub least : ℕ → ℕ → ℕ
unfolding least_from
least k w = least_from k 0 w
