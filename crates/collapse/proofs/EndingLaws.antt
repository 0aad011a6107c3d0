-- Laws of the ends of a run: a number names one end, and there are four. Follows docs/RULES.md, "Run".
-- Assumes nothing.
use mathlib.Core.List.{◌∷◌, []}
use mathlib.Core.Path.{◌≡◌, refl, sym, ap, ◌∙◌}
use Prim.Native.Nat.{ℕ, ◌≤◌}
use native.Mathlib.Omega.{arith}
use lib.ListN.{get_or}
use Rattle.collapse.specs.declared.Ending.{Ending}
use Rattle.collapse.specs.declared.Ending.TheVariants.{Decided, Undecided, Paused, Contradiction}
use Rattle.collapse.specs.Endings.{end_number}

-- the end with a number
abbrev pub ending : ℕ → Ending
ending n = get_or (Decided ∷ Undecided ∷ Paused ∷ []) n Contradiction

pub ending_number : (e : Ending) → ending (end_number e) ≡ e
ending_number Decided = refl
ending_number Undecided = refl
ending_number Paused = refl
ending_number Contradiction = refl

pub end_number-most : (e : Ending) → end_number e ≤ 3
end_number-most Decided = omega arith
end_number-most Undecided = omega arith
end_number-most Paused = omega arith
end_number-most Contradiction = omega arith

pub end_number-injective : (d e : Ending) → end_number d ≡ end_number e → d ≡ e
end_number-injective d e q = sym (ending_number d) ∙ ap ending q ∙ ending_number e
