-- A sheet judged byte by byte: what is kept between one byte and the next, what a byte makes of it, and when the bytes so far are a sheet.
-- Follows docs/RULES.md, "Sheet". Assumes nothing.
use Rattle.std.specs.Prelude.{Bool, true, false, cond, ◌&&◌, List, ◌≡◌, ℕ, zero, suc, ◌+◌, ◌-◌, ◌*◌, ◌/◌, ◌%◌, ◌<◌, leb, ltb, eqb, get_or}
use Rattle.loops.specs.Loops.{each}
use Rattle.scan.specs.declared.inner.Scan.{Scan}
use Rattle.scan.specs.declared.inner.Scan.TheVariants.{Bad, Head, Count, High, Pass, Lists, Ids, Forbids}

-- ---- what comes next

-- so many bytes to pass, and then the record of a kind, with so many lists to come
unfoldable pub passing : ℕ → ℕ → ℕ → Scan
passing zero kind lists = Head kind lists 0 0
passing (suc n) kind lists = Pass n kind lists

-- in so many bytes so many lists; past the last no byte is left, and the grid's record comes
unfoldable pub listing : ℕ → ℕ → Scan
listing left zero = cond (eqb left 0) (Head 3 0 0 0) Bad
listing left (suc n) = Lists left n

-- so many ids, and then so many bytes and lists
unfoldable pub within : ℕ → ℕ → ℕ → Scan
unfolding listing
within zero left lists = listing left lists
within (suc n) left lists = Ids n left lists

-- P is read: as many weights, four times as many lists after them
unfoldable pub counted : ℕ → ℕ → Scan
unfolding passing
counted left count = cond (eqb left (2 + 2 * count)) (passing (2 * count) 2 (4 * count)) Bad

-- in so many bytes width, height and mode
unfoldable pub gridding : ℕ → Scan
unfolding passing
gridding left = cond (eqb left 6) (passing 6 4 0) Bad

-- in so many bytes at most 4,096 forbids of six each
unfoldable pub forbidding : ℕ → Scan
forbidding left = cond (eqb (left % 6) 0 && leb left 24576) (Forbids left) Bad

-- the payload of the record of a kind, of so many bytes
unfoldable pub holding : ℕ → ℕ → ℕ → Scan
unfolding listing gridding forbidding
holding kind lists left = cond (eqb kind 1) (Count left) (cond (eqb kind 2) (listing left lists) (cond (eqb kind 3) (gridding left) (forbidding left)))

-- ---- what a byte makes of it

-- a byte of a record's first six: four of its length, each put in at the top and moved down by those after it; the kind; and 0
unfoldable pub headed : ℕ → ℕ → ℕ → ℕ → ℕ → Scan
unfolding holding
headed kind lists at size x =
    cond (ltb at 4) (Head kind lists (at + 1) (size / 256 + 16777216 * x))
    (cond (eqb at 4) (cond (eqb x kind) (Head kind lists 5 size) Bad) (cond (eqb x 0 && leb 2 size) (holding kind lists (size - 2)) Bad))

-- the length of a list, which ends within its record
unfoldable pub listed : ℕ → ℕ → ℕ → Scan
unfolding within
listed left lists x = cond (ltb x left) (within x (left - 1 - x) lists) Bad

-- a byte of a forbid, where so many of the six are left: the last but one is 0 or 1, and the last is 0
unfoldable pub kind_fits : ℕ → ℕ → Bool
kind_fits place x = cond (eqb place 2) (leb x 1) (cond (eqb place 1) (eqb x 0) true)

-- a byte of the forbids, where so many are left
unfoldable pub forbidden : ℕ → ℕ → Scan
unfolding kind_fits
forbidden zero x = Bad
forbidden (suc n) x = cond (kind_fits (suc n % 6) x) (Forbids n) Bad

-- any byte
unfoldable pub step : ℕ → Scan → Scan
unfolding passing within counted headed listed forbidden
step x Bad = Bad
step x (Head kind lists at size) = headed kind lists at size x
step x (Count left) = High left x
step x (High left low) = counted left (low + 256 * x)
step x (Pass left kind lists) = passing left kind lists
step x (Lists left lists) = listed left lists x
step x (Ids ids left lists) = within ids left lists
step x (Forbids left) = forbidden left x

-- ---- the whole

-- before the first byte
abbrev pub start : Scan
start = Head 1 0 0 0

-- after some bytes more
unfoldable pub past : Scan → List ℕ → Scan
unfolding each step
past s b = each step b s

-- the bytes so far are a sheet
unfoldable pub formed : Scan → Bool
formed Bad = false
formed (Head kind lists at size) = false
formed (Count left) = false
formed (High left low) = false
formed (Pass left kind lists) = false
formed (Lists left lists) = false
formed (Ids ids left lists) = false
formed (Forbids left) = eqb left 0

-- they are known to be none, whatever follows
unfoldable pub bad : Scan → Bool
bad Bad = true
bad (Head kind lists at size) = false
bad (Count left) = false
bad (High left low) = false
bad (Pass left kind lists) = false
bad (Lists left lists) = false
bad (Ids ids left lists) = false
bad (Forbids left) = false

-- some bytes lead from one state to another
pub record Reached (s t : Scan) : Type 0 where
  pub between : List ℕ
  pub bytes : (k : ℕ) → get_or between k 0 < 256
  pub state : t ≡ past s between

-- a program that has read these bytes, all of them, is here
pub record Scanned (b : List ℕ) (s : Scan) : Type 0 where
  pub bytes : (k : ℕ) → get_or b k 0 < 256
  pub state : s ≡ past start b
