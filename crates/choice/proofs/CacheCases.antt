-- Computed claims on the marks of the blocks: 40 cells, so a block of 32 and one of 8, with equal entropies and noise words. Follows docs/RULES.md, "Run".
-- Assumes nothing.
use mathlib.Core.List.{List, [], ◌∷◌}
use mathlib.Core.Path.{◌≡◌, refl}
use Prim.Native.Nat.{ℕ}
use lib.Ieee.{Float, binary32, of_bits, lt, eq}
use lib.ListN.{set, replicate}
use Rattle.std.specs.Prelude.{Some}
use Rattle.choice.specs.Observer.{Notes, notes, observe, sight}
use Rattle.choice.specs.Cache.{codes}

abbrev one : Float
one = of_bits binary32 1065353216

-- cells of two patterns, of which some have a note
noted : List ℕ → Notes
noted counts = notes (replicate 40 one) (replicate 40 7) counts (replicate 40 3) 3

-- no block has a note that counts
none_counts : codes (noted (replicate 40 0)) 0 2 ≡ 1 ∷ 1 ∷ []
unfolding codes noted lt eq of_bits
none_counts = refl

-- the last cell of the first block, and the last of all
last-cells : codes (noted (set (set (replicate 40 0) 31 2) 39 2)) 0 2 ≡ 33 ∷ 9 ∷ []
unfolding codes noted lt eq of_bits
last-cells = refl

-- two cells at the same place of their blocks: the marks are equal, and the earlier block's cell is observed
same_place : (codes (noted (set (set (replicate 40 0) 5 2) 37 2)) 0 2 ≡ 7 ∷ 7 ∷ []) × (observe (noted (set (set (replicate 40 0) 5 2) 37 2)) ≡ Some (sight 5 one))
unfolding codes noted observe lt eq of_bits
same_place = (refl, refl)
