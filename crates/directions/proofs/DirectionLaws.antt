-- Laws of the directions: an opposite is a direction, undoes itself and steps the other way.
-- Assumes nothing.
use mathlib.Core.Path.{◌≡◌, refl}
use Prim.Native.Nat.{ℕ, zero, suc, ◌+◌, ◌%◌, ◌<◌}
use native.Mathlib.Omega.{arith}
use lib.Dec.{lit<}
use lib.IntN.{neg_ℤ}
use mir.Syntax.{w8}
use mir.Val.{SFits}
use Rattle.directions.specs.Directions.{opposite, step_x, step_y}

-- what holds of the four directions holds of each
pub of_four : (F : ℕ → Type 0) → F 0 → F 1 → F 2 → F 3 → (d : ℕ) → d < 4 → F d
of_four F n e s w zero h = n
of_four F n e s w (suc zero) h = e
of_four F n e s w (suc (suc zero)) h = s
of_four F n e s w (suc (suc (suc zero))) h = w
of_four F n e s w (suc (suc (suc (suc d)))) h = absurd (omega arith)

pub opposite-below : (d : ℕ) → d < 4 → opposite d < 4
unfolding opposite
opposite-below = of_four (λ d. opposite d < 4) (lit< tt) (lit< tt) (lit< tt) (lit< tt)

-- the opposite by arithmetic, for those who count
pub opposite-is : (d : ℕ) → d < 4 → opposite d ≡ (d + 2) % 4
unfolding opposite
opposite-is = of_four (λ d. opposite d ≡ (d + 2) % 4) refl refl refl refl

pub opposite-opposite : (d : ℕ) → d < 4 → opposite (opposite d) ≡ d
unfolding opposite
opposite-opposite = of_four (λ d. opposite (opposite d) ≡ d) refl refl refl refl

pub step_x-opposite : (d : ℕ) → d < 4 → step_x (opposite d) ≡ neg_ℤ (step_x d)
unfolding opposite step_x
step_x-opposite = of_four (λ d. step_x (opposite d) ≡ neg_ℤ (step_x d)) refl refl refl refl

pub step_y-opposite : (d : ℕ) → d < 4 → step_y (opposite d) ≡ neg_ℤ (step_y d)
unfolding opposite step_y
step_y-opposite = of_four (λ d. step_y (opposite d) ≡ neg_ℤ (step_y d)) refl refl refl refl

-- a step is a number that a signed byte holds
pub step_x-fits : (d : ℕ) → d < 4 → SFits w8 (step_x d)
unfolding step_x
step_x-fits = of_four (λ d. SFits w8 (step_x d)) (record { sfits = lit< tt }) (record { sfits = lit< tt }) (record { sfits = lit< tt }) (record { sfits = lit< tt })

pub step_y-fits : (d : ℕ) → d < 4 → SFits w8 (step_y d)
unfolding step_y
step_y-fits = of_four (λ d. SFits w8 (step_y d)) (record { sfits = lit< tt }) (record { sfits = lit< tt }) (record { sfits = lit< tt }) (record { sfits = lit< tt })
