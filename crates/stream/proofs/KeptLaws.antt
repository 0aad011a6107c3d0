-- What is kept of a case suffices: what is answered of memory that has its front is the answer of the whole case.
-- Follows docs/RULES.md, "Programs". Assumes nothing.
use mathlib.Core.Bool.{Bool}
use mathlib.Core.List.{List}
use mathlib.Core.Path.{◌≡◌, sym, ap, ◌∙◌}
use Prim.Native.Nat.{ℕ}
use lib.ListN.{length, take}
use Rattle.bounded.specs.Laid.{laid_of, Held}
use Rattle.stream.specs.Cases.{Case, parts, words_of, comes_to, answer_of, kept_of, Rooms, Holds}
use Rattle.bounded.proofs.KeptLaws.{kept-suffices}
use Rattle.stream.proofs.WordLaws.{kept-words}

-- what is kept comes to what the case comes to
pub kept-comes : (c : Case) → comes_to (kept_of c) ≡ comes_to c
unfolding comes_to kept_of
kept-comes c =
    ap (λ (l : List ℕ). laid_of c.sheet l (words_of (take 4096 c.words))) (kept-words 1025 c.noise)
    ∙ ap (laid_of c.sheet (take 1025 (words_of c.noise))) (kept-words 1024 c.words)
    ∙ kept-suffices c.sheet (words_of c.noise) (words_of c.words)

-- what is kept of one part
front : (room : ℕ) (sent memory : List ℕ) → length memory ≡ room → Holds sent memory → take (length sent) memory ≡ take room sent
unfolding Holds
front room sent memory e h = sym h ∙ ap (λ (n : ℕ). take n sent) e

-- what `answer` is lent: how many bytes of noise and words were sent, and memory that has their front
pub kept-answered : (c : Case) (noise words : List ℕ) → Rooms noise words → Holds c.noise noise → Holds c.words words
    → answer_of (comes_to (parts c.sheet (take (length c.noise) noise) (take (length c.words) words))) ≡ answer_of (comes_to c)
unfolding kept_of
kept-answered c noise words R has-noise has_words =
    let n = front 4100 c.noise noise R.noise_long has-noise in
    let w = front 4096 c.words words R.words_long has_words in
    ap (λ (x : Case). answer_of (comes_to x)) (λ j. parts c.sheet (n j) (w j)) ∙ ap answer_of (kept-comes c)

-- the same bytes are held
pub held-part : {b kept part : List ℕ} {judged : Bool} → part ≡ kept → Held b kept judged → Held b part judged
held-part e H = record { bytes = H.bytes; front = e ∙ H.front; formed = H.formed }
