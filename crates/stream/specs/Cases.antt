-- A stream of cases: a number of it; and of a case, the bytes of a sheet, of noise words and of words, what it comes to, what is kept of it, and the bytes that it is answered.
-- Follows docs/RULES.md, "Programs". Assumes nothing.
use Rattle.std.specs.Prelude.{Option, Some, None, Result, Ok, Err, cond, List, ◌++◌, ◌≡◌, ℕ, ◌/◌, ltb, eqb, length, take}
use Rattle.records.specs.Numbers.{u16, u32_at}
use Rattle.seed.specs.Strips.{words_in}
use Rattle.course.specs.Run.{Ended}
use Rattle.sheet.specs.Result.{result_of}
use Rattle.bounded.specs.Laid.{Told, too_large, refused, answer, laid_of}
use Rattle.stream.specs.declared.inner.CutOff.{CutOff}

-- what a stream has next, where so many bytes of the four of a number are there: none of them is its end, and fewer than four are no number
unfoldable pub next_of : ℕ → List ℕ → Result (Option ℕ) CutOff
unfolding u32_at
next_of got b = cond (eqb got 0) (Ok None) (cond (ltb got 4) (Err (record {})) (Ok (Some (u32_at b 0))))

-- ---- what a case comes to

-- a case in bytes
pub record Case : Type 0 where
  pub sheet : List ℕ
  pub noise : List ℕ
  pub words : List ℕ

abbrev pub parts : List ℕ → List ℕ → List ℕ → Case
parts sheet noise words = record { sheet = sheet; noise = noise; words = words }

-- the words of some bytes, four each
unfoldable pub words_of : List ℕ → List ℕ
unfolding words_in
words_of b = words_in b (length b / 4)

-- what a case comes to
unfoldable pub comes_to : Case → Told Ended
unfolding laid_of words_of
comes_to c = laid_of c.sheet (words_of c.noise) (words_of c.words)

-- the bytes that it is answered: a refusal's number, 65535 for what is too large, and 0 with the result's record
unfoldable pub answer_of : Told Ended → List ℕ
unfolding u16 result_of
answer_of too_large = u16 65535
answer_of (refused n) = u16 n
answer_of (answer e) = u16 0 ++ result_of e

-- ---- what is kept

-- 1,025 noise words and 1,024 words; what is kept of a sheet, `Held` says (bounded/specs/Laid.antt)
unfoldable pub kept_of : Case → Case
kept_of c = parts c.sheet (take 4100 c.noise) (take 4096 c.words)

-- room for just that
pub record Rooms (noise words : List ℕ) : Type 0 where
  pub noise_long : length noise ≡ 4100
  pub words_long : length words ≡ 4096

-- memory has the front of what was sent, as much of it as there is room for
unfoldable pub Holds : List ℕ → List ℕ → Type 0
Holds sent memory = take (length memory) sent ≡ take (length sent) memory
