-- Numbers as text. Assumes nothing.
use Rattle.std.specs.Prelude.{cond, List, [], ◌∷◌, ◌++◌, ℕ, zero, suc, ◌+◌, ◌-◌, ◌/◌, ◌%◌, ltb, length, replicate}

-- the digits of n in decimal, for which there are so many places
unfoldable pub digits : ℕ → ℕ → List ℕ
digits zero n = []
digits (suc places) n = cond (ltb n 10) [] (digits places (n / 10)) ++ ((48 + n % 10) ∷ [])

-- a number in decimal: a word has at most 20 digits
unfoldable pub decimal : ℕ → List ℕ
unfolding digits
decimal n = digits 20 n

-- a text at the end of so wide a column: with spaces in front where it is shorter
unfoldable pub aligned : ℕ → List ℕ → List ℕ
aligned width t = replicate (width - length t) 32 ++ t

-- a number in decimal at the end of so wide a column
unfoldable pub padded : ℕ → ℕ → List ℕ
unfolding decimal aligned
padded width n = aligned width (decimal n)
