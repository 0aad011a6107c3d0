-- Which floats are ordered: all but the NaN, the infinities too. Assumes nothing.
use Rattle.std.specs.Prelude.{not, List, ℕ, ◌<◌, T, Float, length, get_or}
use Rattle.std.specs.Float.{nan}
use Rattle.std.specs.Float.Ieee.{is_nan}

-- a float that is no NaN
abbrev pub Number : Float → Type 0
Number x = T (not (is_nan x))

-- each entry of a list is a number
pub record Numbers (l : List Float) : Type 0 where
  pub at : (i : ℕ) → i < length l → Number (get_or l i nan)
