-- The sentences that `replay` says on standard error, each in one line that starts with `replay: `. Follows docs/RULES.md, "Programs".
-- Assumes nothing.
use Rattle.std.specs.Prelude.{List, [], ◌∷◌, ◌++◌, ℕ}
use Rattle.text.specs.Pages.{ascii, line}

-- why no more is answered, one to a line
unfoldable pub reasons : List ℕ
reasons = ascii "the stream is cut off in a case\nthe stream cannot be read\nthe answer could not be written"

-- the sentence of a reason, by its number
unfoldable pub reason_text : ℕ → List ℕ
reason_text reason = ascii "replay: " ++ line reason reasons ++ (10 ∷ [])
