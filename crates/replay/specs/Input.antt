-- What is known of a sheet that was read from the stream, of which memory has the front and all bytes were judged. Follows docs/RULES.md, "Programs".
-- Assumes nothing.
use Rattle.std.specs.Prelude.{Bool, Result, Ok, Err, List, ◌≡◌, ℕ, ◌<◌, length, get_or, take}
use Rattle.scan.specs.declared.inner.Scan.{Scan}
use Rattle.scan.specs.Scanning.{past, formed}
use Rattle.bounded.specs.Laid.{Held}
use Rattle.stream.specs.declared.inner.CutOff.{CutOff}

-- so many bytes lead from one state to another
pub record Led (many : ℕ) (s t : Scan) : Type 0 where
  pub sent : List ℕ
  pub bytes : (k : ℕ) → get_or sent k 0 < 256
  pub long : length sent ≡ many
  pub leads : t ≡ past s sent

-- whether a sheet ends well with so many bytes more, where the stream had them
unfoldable pub Rest : ℕ → Scan → Result Bool CutOff → Type 0
Rest many s (Ok v) = (t : Scan) × Led many s t × (v ≡ formed t)
Rest many s (Err e) = Unit {0}

-- what is held of a sheet of so many bytes, where the stream had them
unfoldable pub Whole : ℕ → List ℕ → Result Bool CutOff → Type 0
Whole many memory (Ok v) = (b : List ℕ) × (length b ≡ many) × Held b (take many memory) v
Whole many memory (Err e) = Unit {0}
