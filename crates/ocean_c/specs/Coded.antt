-- How an answer is told as one number: a refusal's number in the lowest byte, 0 there where the call is accepted; which case it is from bit 8;
-- the case's value from bit 32. Follows docs/RULES.md, "Refusals". Assumes nothing.
use Rattle.std.specs.Prelude.{Bool, true, false, ℕ, ◌+◌, ◌*◌, Float, Option, None, Some}
use Rattle.std.specs.Float.{binary32}
use Rattle.std.specs.Float.Ieee.{to_bits}
use Rattle.refusals.specs.Refusals.{Asked, refused, answer}
use Rattle.course.specs.Called.{End}

-- a case and its value
unfoldable pub cased : ℕ → ℕ → ℕ
cased case value = 256 * case + 4294967296 * value

-- ---- the answers

-- a run: the end, and the words used
unfoldable pub coded : Asked End → ℕ
unfolding cased
coded (refused n) = n
coded (answer e) = cased e.end e.used

-- a cell or a pattern: 0 with its number, 1 where there is none
unfoldable pub found_coded : Asked (Option ℕ) → ℕ
unfolding cased
found_coded (refused n) = n
found_coded (answer (Some k)) = cased 0 k
found_coded (answer None) = cased 1 0

-- an entropy: 0 with its bits, 1 where there is none
unfoldable pub entropy_coded : Asked (Option Float) → ℕ
unfolding cased
entropy_coded (refused n) = n
entropy_coded (answer (Some x)) = cased 0 (to_bits binary32 x)
entropy_coded (answer None) = cased 1 0

-- propagation: 0 consistent, 1 a contradiction
unfoldable pub settled_coded : Asked Bool → ℕ
unfolding cased
settled_coded (refused n) = n
settled_coded (answer false) = cased 0 0
settled_coded (answer true) = cased 1 0

-- a sheet that is written: the bytes
unfoldable pub bytes_coded : Asked ℕ → ℕ
unfolding cased
bytes_coded (refused n) = n
bytes_coded (answer n) = cased 0 n

-- a call of which nothing else is told
unfoldable pub accepted_coded : {A : Type 0} → Asked A → ℕ
accepted_coded (refused n) = n
accepted_coded (answer x) = 0

-- ---- their values, 0 where the call is refused

-- the words used
unfoldable pub used_in : Asked End → ℕ
used_in (refused n) = 0
used_in (answer e) = e.used

-- the bytes written
unfoldable pub bytes_in : Asked ℕ → ℕ
bytes_in (refused n) = 0
bytes_in (answer n) = n
