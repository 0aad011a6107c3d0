-- Computed claims on the observer: what decides between two cells, and which notes are passed over. Follows docs/RULES.md, "Run".
-- Assumes nothing.
use mathlib.Core.List.{List, [], ◌∷◌}
use mathlib.Core.Path.{◌≡◌, refl}
use Prim.Native.Nat.{ℕ}
use lib.Ieee.{Float, binary32, of_bits, lt, eq}
use Rattle.std.specs.Prelude.{Some, None}
use Rattle.choice.specs.Observer.{notes, observe, Observed, sight}

-- 1, a half, and a half below zero
abbrev one : Float
one = of_bits binary32 1065353216

abbrev half : Float
half = of_bits binary32 1056964608

abbrev negative : Float
negative = of_bits binary32 3204448256

-- what is observed: entropies, noise words, counts and domains, and the word of the weighted patterns
ask : List Float → List ℕ → List ℕ → List ℕ → ℕ → Observed
unfolding observe lt eq of_bits
ask entropies noises counts domains mask = observe (notes entropies noises counts domains mask)

-- ---- what decides

least-entropy :
    (ask (one ∷ half ∷ []) (4 ∷ 9 ∷ []) (2 ∷ 2 ∷ []) (3 ∷ 3 ∷ []) 3 ≡ Some (sight 1 half))
    × (ask (half ∷ negative ∷ []) (4 ∷ 9 ∷ []) (2 ∷ 2 ∷ []) (3 ∷ 3 ∷ []) 3 ≡ Some (sight 1 negative))
unfolding ask
least-entropy = (refl, refl)

then-noise : ask (one ∷ one ∷ []) (9 ∷ 4 ∷ []) (2 ∷ 2 ∷ []) (3 ∷ 3 ∷ []) 3 ≡ Some (sight 1 one)
unfolding ask
then-noise = refl

then-cell : ask (one ∷ one ∷ []) (4 ∷ 4 ∷ []) (2 ∷ 2 ∷ []) (3 ∷ 3 ∷ []) 3 ≡ Some (sight 0 one)
unfolding ask
then-cell = refl

-- ---- what is passed over

-- a note of three weighted patterns, of which two are left
stale_passed : ask (half ∷ one ∷ []) (4 ∷ 9 ∷ []) (3 ∷ 2 ∷ []) (3 ∷ 3 ∷ []) 7 ≡ Some (sight 1 one)
unfolding ask
stale_passed = refl

-- a cell with one pattern, though its count is right; with a pattern of weight 0 beside it there are two
one-pattern-passed : ask (half ∷ one ∷ []) (4 ∷ 9 ∷ []) (1 ∷ 1 ∷ []) (1 ∷ 3 ∷ []) 1 ≡ Some (sight 1 one)
unfolding ask
one-pattern-passed = refl

-- no note, though no weighted pattern is what the cell has
no-note-passed : ask (half ∷ []) (4 ∷ []) (0 ∷ []) (6 ∷ []) 1 ≡ None
unfolding ask
no-note-passed = refl
