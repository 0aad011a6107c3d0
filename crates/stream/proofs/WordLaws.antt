-- Laws of words in bytes: the first words are those of the first bytes.
-- Assumes nothing.
use mathlib.Core.Bool.{Bool, true, false}
use mathlib.Core.List.{List, [], ◌∷◌, ◌++◌}
use mathlib.Core.Path.{◌≡◌, refl, sym, ap, ◌∙◌}
use Prim.Native.Nat.{ℕ, zero, suc, ◌+◌, ◌*◌, ◌/◌, ◌≤◌, ◌<◌}
use native.Mathlib.Omega.{arith}
use lib.Dec.{leb}
use lib.ListN.{length, get_or, take, length-append}
use lib.Seq.{length-take-le, take_all, take-append-le, get_or-take}
use borrow.Author.Tests.{leb-true, leb-false}
use Rattle.seed.specs.Strips.{word_at, words_in}
use Rattle.bounded.specs.Laid.{laid_of}
use Rattle.stream.specs.Cases.{parts, words_of, comes_to}

length-words : (b : List ℕ) (n : ℕ) → length (words_in b n) ≡ n
unfolding words_in
length-words b zero = refl
length-words b (suc n) = omega (arith, length-append (words_in b n) (word_at b (4 * n) ∷ []), length-words b n)

-- the first k of n words
pub take_words : (b : List ℕ) (k n : ℕ) → k ≤ n → take k (words_in b n) ≡ words_in b k
unfolding words_in
take_words b k zero h =
    let none : k ≡ 0 = omega arith in
    rw none
take_words b k (suc n) h = go (leb k n) refl (λ l. take_words b k n l)
  where
    go : (v : Bool) → leb k n ≡ v → (k ≤ n → take k (words_in b n) ≡ words_in b k) → take k (words_in b n ++ (word_at b (4 * n) ∷ [])) ≡ words_in b k
    go true t less = take-append-le k (words_in b n) (word_at b (4 * n) ∷ []) (omega (arith, length-words b n, leb-true k n t)) ∙ less (leb-true k n t)
    go false f less =
        let all : k ≡ suc n = omega (arith, leb-false k n f) in
        rw all (take_all (suc n) (words_in b (suc n)) (omega (arith, length-words b (suc n))))

-- where the bytes of some words are the same, the words are
same_words : (a b : List ℕ) (n : ℕ) → ((i : ℕ) → i < 4 * n → get_or a i 0 ≡ get_or b i 0) → words_in a n ≡ words_in b n
unfolding words_in word_at
same_words a b zero h = refl
same_words a b (suc n) h =
    rw
    (same_words a b n (λ i l. h i (omega arith)), h (4 * n) (omega arith), h (4 * n + 1) (omega arith), h (4 * n + 2) (omega arith), h (4 * n + 3) (omega arith))

-- the words of the first 4k bytes are the first k
pub kept-words : (k : ℕ) (b : List ℕ) → words_of (take (4 * k) b) ≡ take k (words_of b)
unfolding words_of
kept-words k b = go (leb (length b) (4 * k)) refl
  where
    go : (v : Bool) → leb (length b) (4 * k) ≡ v → words_of (take (4 * k) b) ≡ take k (words_of b)
    go true t =
        let short = leb-true (length b) (4 * k) t in
        ap words_of (take_all (4 * k) b short) ∙ sym (take_all k (words_of b) (omega (arith, length-words b (length b / 4))))
    go false f =
        let long = leb-false (length b) (4 * k) f in
        let whole : length (take (4 * k) b) / 4 ≡ k = omega (arith, length-take-le (4 * k) b (omega arith)) in
        ap (words_in (take (4 * k) b)) whole
        ∙ same_words (take (4 * k) b) b k (λ i l. get_or-take (4 * k) b i 0 l)
        ∙ sym (take_words b k (length b / 4) (omega arith))

-- a case whose words were unpacked
pub unpacked : (sheet noise words first second : List ℕ) (n w : ℕ) → first ≡ words_in noise n → second ≡ words_in words w → length noise / 4 ≤ n → length words / 4 ≤ w
    → laid_of sheet (take (length noise / 4) first) (take (length words / 4) second) ≡ comes_to (parts sheet noise words)
unfolding comes_to words_of
unpacked sheet noise words first second n w e f h k =
    rw (e, f, take_words noise (length noise / 4) n h, take_words words (length words / 4) w k)
