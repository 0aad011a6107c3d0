-- How a list is told as one number, as a part of the ids: a refusal's number in the lowest byte, how long the list is from bit 8, where it begins
-- from bit 32. Follows docs/RULES.md, "Tables" and "Refusals". Assumes nothing.
use Rattle.std.specs.Prelude.{ℕ, zero, suc, ◌+◌, ◌*◌, ◌/◌, ◌%◌, length, get_or}
use Rattle.adjacency.specs.Tables.{Table, list_of}
use Rattle.adjacency.specs.Lookup.{list_refusal}
use Rattle.ocean_c.specs.Coded.{cased}

-- a refusal, or a length and a place
unfoldable pub part_coded : ℕ → ℕ → ℕ → ℕ
unfolding cased
part_coded zero long start = cased long start
part_coded (suc n) long start = suc n

-- the list of p for d
unfoldable pub list_coded : Table → ℕ → ℕ → ℕ
unfolding part_coded list_refusal list_of
list_coded t p d = part_coded (list_refusal t p d) (length (list_of t p d)) (get_or t.offsets (4 * p + d) 0)

-- what a caller reads off: the length and the place
unfoldable pub long_in : ℕ → ℕ
long_in code = code / 256 % 16777216

unfoldable pub start_in : ℕ → ℕ
start_in code = code / 4294967296
