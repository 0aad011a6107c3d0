-- Computed claims on the definitions: both sides of every limit, the order of the refusals, and the neighbours where a side is short,
-- ends or wraps. Follows docs/RULES.md, "Grid" and "Refusals". Assumes nothing.
use Rattle.std.specs.Prelude.{Option, None, Some}
use mathlib.Core.Path.{◌≡◌, refl}
use Prim.Native.Nat.{ℕ}
use Rattle.refusals.specs.Refusals.{Asked, refused, answer}
use Rattle.grid.specs.Answers.{neighbour_asked}
use Rattle.grid.specs.Grid.{grid}

-- what lies in a direction: width, height and mode, then cell and direction
ask : ℕ → ℕ → ℕ → ℕ → ℕ → Asked (Option ℕ)
unfolding neighbour_asked
ask width height mode c d = neighbour_asked (grid width height mode) c d

-- ---- both sides of every limit

width_limits :
    (ask 0 1 0 0 1 ≡ refused 1)
    × (ask 1 1 0 0 1 ≡ answer None)
    × (ask 64 1 0 62 1 ≡ answer (Some 63))
    × (ask 65 1 0 62 1 ≡ refused 1)
unfolding ask
width_limits = (refl, refl, refl, refl)

height_limits :
    (ask 1 0 0 0 2 ≡ refused 1)
    × (ask 1 1 0 0 2 ≡ answer None)
    × (ask 1 64 0 62 2 ≡ answer (Some 63))
    × (ask 1 65 0 62 2 ≡ refused 1)
unfolding ask
height_limits = (refl, refl, refl, refl)

cells_limits : (ask 32 32 0 1023 3 ≡ answer (Some 1022)) × (ask 32 33 0 1023 3 ≡ refused 1)
unfolding ask
cells_limits = (refl, refl)

mode_limits : (ask 2 2 3 0 0 ≡ answer (Some 2)) × (ask 2 2 4 0 0 ≡ refused 2)
unfolding ask
mode_limits = (refl, refl)

direction_limits : (ask 2 2 0 1 3 ≡ answer (Some 0)) × (ask 2 2 0 1 4 ≡ refused 11)
unfolding ask
direction_limits = (refl, refl)

cell_limits : (ask 3 2 0 5 3 ≡ answer (Some 4)) × (ask 3 2 0 6 3 ≡ refused 8)
unfolding ask
cell_limits = (refl, refl)

-- ---- the order 1, 2, 11, 8: one fault less in each line

refusal-order :
    (ask 65 1 4 65 4 ≡ refused 1)
    × (ask 64 1 4 65 4 ≡ refused 2)
    × (ask 64 1 0 65 4 ≡ refused 11)
    × (ask 64 1 0 65 0 ≡ refused 8)
    × (ask 64 1 0 63 0 ≡ answer None)
unfolding ask
refusal-order = (refl, refl, refl, refl, refl)

-- ---- short sides

-- on a wrapped side of length 1 a cell is its own neighbour
one-wrapped :
    (ask 1 1 1 0 1 ≡ answer (Some 0))
    × (ask 1 1 1 0 3 ≡ answer (Some 0))
    × (ask 1 1 1 0 0 ≡ answer None)
    × (ask 1 1 2 0 0 ≡ answer (Some 0))
    × (ask 1 1 2 0 2 ≡ answer (Some 0))
    × (ask 1 1 2 0 1 ≡ answer None)
unfolding ask
one-wrapped = (refl, refl, refl, refl, refl, refl)

-- on a wrapped side of length 2 both directions lead to the other cell
two-wrapped :
    (ask 2 1 1 0 1 ≡ answer (Some 1))
    × (ask 2 1 1 0 3 ≡ answer (Some 1))
    × (ask 2 1 1 1 1 ≡ answer (Some 0))
    × (ask 2 1 1 1 3 ≡ answer (Some 0))
unfolding ask
two-wrapped = (refl, refl, refl, refl)

-- ---- 3 by 2: cells 0 1 2 above 3 4 5

inside :
    (ask 3 2 0 4 0 ≡ answer (Some 1))
    × (ask 3 2 0 4 1 ≡ answer (Some 5))
    × (ask 3 2 0 1 2 ≡ answer (Some 4))
    × (ask 3 2 0 4 3 ≡ answer (Some 3))
unfolding ask
inside = (refl, refl, refl, refl)

edges :
    (ask 3 2 0 1 0 ≡ answer None)
    × (ask 3 2 0 2 1 ≡ answer None)
    × (ask 3 2 0 4 2 ≡ answer None)
    × (ask 3 2 0 3 3 ≡ answer None)
unfolding ask
edges = (refl, refl, refl, refl)

-- mode 1 joins the last column to the first, and no more
seam-x :
    (ask 3 2 1 5 1 ≡ answer (Some 3))
    × (ask 3 2 1 3 3 ≡ answer (Some 5))
    × (ask 3 2 1 1 0 ≡ answer None)
    × (ask 3 2 1 4 2 ≡ answer None)
unfolding ask
seam-x = (refl, refl, refl, refl)

-- mode 2 joins the last row to the first, and no more
seam-y :
    (ask 3 2 2 4 2 ≡ answer (Some 1))
    × (ask 3 2 2 1 0 ≡ answer (Some 4))
    × (ask 3 2 2 2 1 ≡ answer None)
    × (ask 3 2 2 3 3 ≡ answer None)
unfolding ask
seam-y = (refl, refl, refl, refl)

-- mode 3 does both
seams :
    (ask 3 2 3 5 1 ≡ answer (Some 3))
    × (ask 3 2 3 5 2 ≡ answer (Some 2))
    × (ask 3 2 3 0 3 ≡ answer (Some 2))
    × (ask 3 2 3 0 0 ≡ answer (Some 3))
unfolding ask
seams = (refl, refl, refl, refl)
