-- Computed claims on the choice: case K, patterns that are passed over, both sides of every limit, and the order of the refusals.
-- Follows docs/RULES.md, "Run" and "Refusals". Assumes nothing.
use mathlib.Core.List.{[], ◌∷◌}
use Rattle.std.specs.Prelude.{None, Some}
use mathlib.Core.Path.{◌≡◌, refl}
use lib.ListN.{replicate}
use Rattle.refusals.specs.Refusals.{refused, answer}
use Rattle.choice.specs.Asked.{choice_asked as ask}

-- each line asks with P, the weights, the domain and the word

-- case K: weights 2, 3, both patterns, and the words 1, 2, 4, 5
pub case_K :
    (ask 2 (2 ∷ 3 ∷ []) 3 1 ≡ answer (Some 0))
    × (ask 2 (2 ∷ 3 ∷ []) 3 2 ≡ answer (Some 1))
    × (ask 2 (2 ∷ 3 ∷ []) 3 4 ≡ answer (Some 1))
    × (ask 2 (2 ∷ 3 ∷ []) 3 5 ≡ answer (Some 0))
unfolding ask
case_K = (refl, refl, refl, refl)

-- ---- what is passed over

-- a pattern of weight 0 is never chosen
no-weight-passed :
    (ask 4 (0 ∷ 1 ∷ 0 ∷ 2 ∷ []) 15 0 ≡ answer (Some 1))
    × (ask 4 (0 ∷ 1 ∷ 0 ∷ 2 ∷ []) 15 1 ≡ answer (Some 3))
    × (ask 4 (0 ∷ 1 ∷ 0 ∷ 2 ∷ []) 15 2 ≡ answer (Some 3))
    × (ask 4 (0 ∷ 1 ∷ 0 ∷ 2 ∷ []) 15 3 ≡ answer (Some 1))
unfolding ask
no-weight-passed = (refl, refl, refl, refl)

-- nor is one that the domain lacks, whose weight is not in the sum
absent-passed :
    (ask 3 (2 ∷ 3 ∷ 1 ∷ []) 5 1 ≡ answer (Some 0))
    × (ask 3 (2 ∷ 3 ∷ 1 ∷ []) 5 2 ≡ answer (Some 2))
    × (ask 3 (2 ∷ 3 ∷ 1 ∷ []) 5 3 ≡ answer (Some 0))
unfolding ask
absent-passed = (refl, refl, refl)

-- without a weighted pattern there is no choice
none_weighted :
    (ask 2 (0 ∷ 0 ∷ []) 3 7 ≡ answer None)
    × (ask 2 (0 ∷ 5 ∷ []) 1 7 ≡ answer None)
    × (ask 2 (2 ∷ 3 ∷ []) 0 7 ≡ answer None)
unfolding ask
none_weighted = (refl, refl, refl)

-- ---- both sides of every limit

count_limits :
    (ask 0 [] 0 0 ≡ refused 3)
    × (ask 1 (1 ∷ []) 1 0 ≡ answer (Some 0))
    × (ask 64 (replicate 64 1) 18446744073709551615 63 ≡ answer (Some 63))
    × (ask 65 (replicate 65 1) 1 0 ≡ refused 3)
unfolding ask
count_limits = (refl, refl, refl, refl)

length_limits :
    (ask 2 (1 ∷ []) 1 0 ≡ refused 5)
    × (ask 2 (1 ∷ 1 ∷ []) 1 0 ≡ answer (Some 0))
    × (ask 2 (1 ∷ 1 ∷ 1 ∷ []) 1 0 ≡ refused 5)
unfolding ask
length_limits = (refl, refl, refl)

weight_limits : (ask 2 (1 ∷ 1023 ∷ []) 3 1023 ≡ answer (Some 1)) × (ask 2 (1 ∷ 1024 ∷ []) 3 1023 ≡ refused 4)
unfolding ask
weight_limits = (refl, refl)

domain_limits : (ask 2 (2 ∷ 3 ∷ []) 3 0 ≡ answer (Some 0)) × (ask 2 (2 ∷ 3 ∷ []) 4 0 ≡ refused 9)
unfolding ask
domain_limits = (refl, refl)

-- ---- the order 3, 5, 4, 9: one fault less in each line

refusal-order :
    (ask 0 (1025 ∷ []) 4 0 ≡ refused 3)
    × (ask 2 (1025 ∷ []) 4 0 ≡ refused 5)
    × (ask 2 (1025 ∷ 0 ∷ []) 4 0 ≡ refused 4)
    × (ask 2 (1024 ∷ 0 ∷ []) 4 0 ≡ refused 9)
    × (ask 2 (1024 ∷ 0 ∷ []) 2 0 ≡ answer None)
unfolding ask
refusal-order = (refl, refl, refl, refl, refl)
