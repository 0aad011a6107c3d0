-- Laws of the words of a seed: a word more is the counter's next value, mixed.
-- Assumes nothing.
use Rattle.std.proofs.Common.{◌≡◌, ℕ, suc, ◌+◌, ◌*◌, ◌/◌, ◌%◌, ◌^◌, ◌<◌, ◌≤◌, List, [], ◌∷◌, ◌++◌, length, take, set, refl, ap, ◌∙◌, add-one, arith, take_all, take-suc-set}
use lib.Bits.{bit_xor}
use Rattle.seed.specs.Seeds.{stepped, after, laid, scaled, mixed, words_of, Strip, strip, drawn, both, drawn_both}

-- the steps of the mixer, one after the other
pub mixed-steps : (x a b c d : ℕ) → a ≡ bit_xor x (x / 2 ^ 16) → b ≡ a * 2246822507 % 2 ^ 32 → c ≡ bit_xor b (b / 2 ^ 13) → d ≡ c * 3266489909 % 2 ^ 32
    → bit_xor d (d / 2 ^ 16) ≡ mixed x
unfolding mixed laid scaled
mixed-steps x a b c d ea eb ec ed =
    ap (laid 16) (ed ∙ ap (scaled 3266489909) (ec ∙ ap (laid 13) (eb ∙ ap (scaled 2246822507) ea)))

-- ---- filling

-- of the list l, the first i entries are the seed's words, and the counter is after them
pub record Drawn (x i : ℕ) (l : List ℕ) (state : ℕ) : Type 0 where
  pub words : take i l ≡ words_of x i
  pub counter : state ≡ after x i

pub drawn_none : (x : ℕ) (l : List ℕ) → Drawn x 0 l x
unfolding words_of after
drawn_none x l = record { words = refl; counter = refl }

pub drawn_more : (x i : ℕ) (l : List ℕ) (state state' w : ℕ) → i < length l → state' ≡ stepped state → w ≡ mixed state' → Drawn x i l state → Drawn x (i + 1) (set l i w) state'
unfolding words_of after
drawn_more x i l state state' w h step mix d =
    let c : state' ≡ after x (suc i) = step ∙ ap stepped d.counter in
    rw (add-one i) (record {
      words = take-suc-set l i w h ∙ ap (λ (t : List ℕ). t ++ (w ∷ [])) d.words ∙ ap (λ (y : ℕ). words_of x i ++ (y ∷ [])) (mix ∙ ap mixed c);
      counter = c;
    })

pub drawn-all : (x i n : ℕ) (l : List ℕ) (state : ℕ) → length l ≡ n → i ≤ n → n ≤ i → Drawn x i l state → strip l state ≡ drawn x n
unfolding drawn
drawn-all x i n l state e h h' d =
    let same : i ≡ n = omega arith in
    let whole : l ≡ words_of x n = rw same at (rw (take_all i l (omega arith)) at d.words) in
    let last : state ≡ after x n = rw same at d.counter in
    ap (λ (t : List ℕ). strip t state) whole ∙ ap (strip (words_of x n)) last

-- ---- noise and words

pub both-drawn : (x n m s t : ℕ) (a b : List ℕ) → strip a s ≡ drawn x n → strip b t ≡ drawn s m → both a b ≡ drawn_both x n m
unfolding drawn drawn_both
both-drawn x n m s t a b e f =
    let first : a ≡ words_of x n = ap (λ (z : Strip). z.words) e in
    let last : s ≡ after x n = ap (λ (z : Strip). z.state) e in
    let second : b ≡ words_of s m = ap (λ (z : Strip). z.words) f in
    ap (λ (y : List ℕ). both y b) first ∙ ap (both (words_of x n)) (second ∙ ap (λ (y : ℕ). words_of y m) last)
