-- Laws of the words of a file: one word more, and all of them. Assumes nothing.
use Rattle.std.proofs.Common.{◌≡◌, ℕ, ◌+◌, ◌*◌, ◌<◌, ◌≤◌, List, [], ◌∷◌, ◌++◌, length, get_or, take, set, refl, ap, ◌∙◌, add-one, arith, take_all, take-suc-set}
use Rattle.seed.specs.Strips.{word_at, words_in}

pub word_of : (bytes : List ℕ) (i a b c d : ℕ) → a ≡ get_or bytes i 0 → b ≡ get_or bytes (i + 1) 0 → c ≡ get_or bytes (i + 2) 0 → d ≡ get_or bytes (i + 3) 0
    → a + b * 256 + c * 65536 + d * 16777216 ≡ word_at bytes i
unfolding word_at
word_of bytes i a b c d e f g h = omega arith

pub read_none : (bytes l : List ℕ) → take 0 l ≡ words_in bytes 0
unfolding words_in
read_none bytes l = refl

pub read_more : (bytes l : List ℕ) (i w : ℕ) → i < length l → w ≡ word_at bytes (4 * i) → take i l ≡ words_in bytes i → take (i + 1) (set l i w) ≡ words_in bytes (i + 1)
unfolding words_in
read_more bytes l i w h e inv =
    rw (add-one i) (take-suc-set l i w h ∙ ap (λ (t : List ℕ). t ++ (w ∷ [])) inv ∙ ap (λ (y : ℕ). words_in bytes i ++ (y ∷ [])) e)

pub read_all : (bytes l : List ℕ) (i n : ℕ) → length l ≡ n → i ≤ n → n ≤ i → take i l ≡ words_in bytes i → l ≡ words_in bytes n
read_all bytes l i n e h h' inv =
    let same : i ≡ n = omega arith in
    rw same at (rw (take_all i l (omega arith)) at inv)
