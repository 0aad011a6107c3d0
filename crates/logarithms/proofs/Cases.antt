-- Worked cases, computed from the definitions, floats by their bits: entropies asked apart, with both sides of every limit, and what a run notes.
-- Assumes nothing.
use mathlib.Core.List.{List, ◌∷◌, map, []}
use Rattle.std.specs.Prelude.{Option, None, Some}
use mathlib.Core.Path.{◌≡◌, refl}
use Prim.Native.Nat.{ℕ, ◌-◌, ◌^◌}
use lib.Ieee.{Float, binary32, add, sub, mul, div, of_int, of_bits}
use lib.ListN.{replicate}
use Rattle.refusals.specs.Refusals.{Asked, refused, answer}
use Rattle.logarithms.specs.Entropy.{running, minus, entropy}
use Rattle.logarithms.specs.Asked.{entropy_asked}

-- ---- asked apart

-- a count, weights and a domain that are asked about, and what is told
pub record Case : Type 0 where
  pub count : ℕ
  pub weights : List ℕ
  pub domain : ℕ
  pub told : Asked (Option Float)

abbrev asks : ℕ → List ℕ → ℕ → Asked (Option Float) → Case
asks count weights domain told = record { count = count; weights = weights; domain = domain; told = told }

abbrev bits : ℕ → Asked (Option Float)
bits n = answer (Some (of_bits binary32 n))

unfoldable pub cases : List Case
cases =
    -- log2 3
    asks 3 (1 ∷ 1 ∷ 1 ∷ []) 7 (bits 1070260237)
    -- about 0.159 where 100, 1, 1, 1 lacks a 1, and exactly 1 where it lacks the 100 too
    ∷ asks 4 (100 ∷ 1 ∷ 1 ∷ 1 ∷ []) 7 (bits 1042458400)
    ∷ asks 4 (100 ∷ 1 ∷ 1 ∷ 1 ∷ []) 6 (bits 1065353216)
    -- exactly 2, two ways
    ∷ asks 5 (4 ∷ 1 ∷ 1 ∷ 1 ∷ 1 ∷ []) 31 (bits 1073741824)
    ∷ asks 4 (1 ∷ 1 ∷ 1 ∷ 1 ∷ []) 15 (bits 1073741824)
    -- below 0, by rounding
    ∷ asks 1 (7 ∷ []) 1 (bits 3028287488)
    -- a weight of 0 takes no part, in the domain or out of it
    ∷ asks 5 (1 ∷ 0 ∷ 1 ∷ 1 ∷ 0 ∷ []) 31 (bits 1070260237)
    ∷ asks 5 (1 ∷ 0 ∷ 1 ∷ 1 ∷ 0 ∷ []) 13 (bits 1070260237)
    -- without a weighted pattern there is none
    ∷ asks 5 (1 ∷ 0 ∷ 1 ∷ 1 ∷ 0 ∷ []) 18 (answer None)
    ∷ asks 3 (1 ∷ 1 ∷ 1 ∷ []) 0 (answer None)
    -- no pattern, 64 and 65
    ∷ asks 0 [] 0 (refused 3)
    ∷ asks 64 (replicate 64 16) (2 ^ 64 - 1) (bits 1086324736)
    ∷ asks 65 (replicate 65 1) 1 (refused 3)
    -- a weight too few, and one too many
    ∷ asks 2 (1 ∷ []) 1 (refused 5)
    ∷ asks 2 (1 ∷ 1 ∷ 1 ∷ []) 1 (refused 5)
    -- a sum of 1,024 and of 1,025
    ∷ asks 2 (1023 ∷ 1 ∷ []) 3 (bits 1010242560)
    ∷ asks 2 (1023 ∷ 2 ∷ []) 3 (refused 4)
    -- the last pattern, and one past it
    ∷ asks 2 (1 ∷ 1 ∷ []) 2 (bits 0)
    ∷ asks 2 (1 ∷ 1 ∷ []) 4 (refused 9)
    -- 3 before 5 before 4 before 9
    ∷ asks 65 (1025 ∷ []) (2 ^ 65) (refused 3)
    ∷ asks 2 (1025 ∷ []) 4 (refused 5)
    ∷ asks 1 (1025 ∷ []) 2 (refused 4)
    ∷ asks 1 (1024 ∷ []) 2 (refused 9)
    ∷ []

pub cases-told : map (λ (c : Case). entropy_asked c.count c.weights c.domain) cases ≡ map (λ (c : Case). c.told) cases
unfolding cases entropy_asked add sub mul div of_int of_bits
cases-told = refl

-- ---- in a run

-- 100, 1, 1, 1 loses a 1, then the 100, within one propagation
abbrev uneven : Float
uneven = running (100 ∷ 1 ∷ 1 ∷ 1 ∷ [])

pub one-lost : entropy 102 (minus uneven 1) ≡ of_bits binary32 1042458400
unfolding entropy minus running add sub mul div of_int of_bits
one-lost = refl

pub both-lost : entropy 2 (minus (minus uneven 1) 100) ≡ of_bits binary32 1065353216
unfolding entropy minus running add sub mul div of_int of_bits
both-lost = refl

-- the order of removals shows in the last bits: 2, 3, 6 that loses the 2 and the 3, and that loses the 3 and the 2
pub upward : entropy 6 (minus (minus (running (2 ∷ 3 ∷ 6 ∷ [])) 2) 3) ≡ of_bits binary32 0
unfolding entropy minus running add sub mul div of_int of_bits
upward = refl

pub downward : entropy 6 (minus (minus (running (2 ∷ 3 ∷ 6 ∷ [])) 3) 2) ≡ of_bits binary32 3028287488
unfolding entropy minus running add sub mul div of_int of_bits
downward = refl
