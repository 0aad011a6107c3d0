-- Worked cases of notes, computed from the definitions: an older note stays where a later entropy is not strictly less.
use mathlib.Core.List.{◌∷◌, []}
use mathlib.Core.Path.{◌≡◌, refl}
use Prim.Native.Nat.{ℕ}
use lib.Ieee.{Float, add, sub, mul, div, of_int, of_bits, lt}
use Rattle.logarithms.specs.Entropy.{running, minus, entropy}
use Rattle.notes.specs.Notes.{note, lowered}

-- 100, 1, 1, 1 loses a 1, then the 100, within one propagation
abbrev uneven : Float
uneven = running (100 ∷ 1 ∷ 1 ∷ 1 ∷ [])

-- the older note stays, and with it a count that is stale
pub older-stays : (noise : ℕ) →
    let older = note (entropy 102 (minus uneven 1)) noise 3 in
    lowered older (entropy 2 (minus (minus uneven 1) 100)) 2 ≡ older
unfolding lowered entropy minus running add sub mul div of_int of_bits lt
older-stays noise = refl

-- 4, 1, 1, 1, 1 loses the 4: the entropy is 2 as before, and the older note stays
pub equal-stays : (noise : ℕ) →
    let value = running (4 ∷ 1 ∷ 1 ∷ 1 ∷ 1 ∷ []) in
    let older = note (entropy 8 value) noise 5 in
    lowered older (entropy 4 (minus value 4)) 4 ≡ older
unfolding lowered entropy minus running add sub mul div of_int of_bits lt
equal-stays noise = refl
