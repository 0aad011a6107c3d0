-- Numbers in bytes, little-endian. Follows docs/RULES.md, "Sheet". Assumes nothing.
use Rattle.std.specs.Prelude.{List, [], ◌∷◌, ◌++◌, ℕ, ◌+◌, ◌*◌, ◌/◌, ◌%◌, get_or}

-- ---- written

-- a number below 2^16 as two bytes, the low one first
unfoldable pub u16 : ℕ → List ℕ
u16 n = n % 256 ∷ n / 256 ∷ []

-- a number below 2^32 as four
unfoldable pub u32 : ℕ → List ℕ
unfolding u16
u32 n = u16 (n % 65536) ++ u16 (n / 65536)

-- a number below 2^64 as eight
unfoldable pub u64 : ℕ → List ℕ
unfolding u32
u64 n = u32 (n % 4294967296) ++ u32 (n / 4294967296)

-- each number as two bytes
unfoldable pub u16s : List ℕ → List ℕ
unfolding u16
u16s [] = []
u16s (n ∷ ns) = u16 n ++ u16s ns

-- each number as eight
unfoldable pub u64s : List ℕ → List ℕ
unfolding u64
u64s [] = []
u64s (n ∷ ns) = u64 n ++ u64s ns

-- ---- read

-- the number of the two bytes from k on
unfoldable pub u16At : List ℕ → ℕ → ℕ
u16At b k = get_or b k 0 + 256 * get_or b (k + 1) 0

-- the number of the four bytes from k on
unfoldable pub u32_at : List ℕ → ℕ → ℕ
unfolding u16At
u32_at b k = u16At b k + 65536 * u16At b (k + 2)

-- the numbers of two bytes each
unfoldable pub numbers_in : List ℕ → List ℕ
numbers_in [] = []
numbers_in (x ∷ []) = []
numbers_in (x ∷ y ∷ l) = (x + 256 * y) ∷ numbers_in l
