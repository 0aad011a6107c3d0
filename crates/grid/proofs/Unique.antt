-- The contract of `grid::neighbour` has one outcome: two answers that meet it are equal.
-- Assumes nothing.
use mathlib.Core.Path.{◌≡◌, sym, ap, ◌∙◌}
use Prim.Native.Nat.{ℕ}
use Rattle.std.specs.Prelude.{Option, Result, Ok, Err}
use Rattle.refusals.specs.declared.Refusal.{Refusal}
use Rattle.grid.specs.Answers.{near_of, neighbour_asked}
use Rattle.grid.specs.Grid.{Grid}
use Rattle.refusals.proofs.RefusalLaws.{number-injective}

pub near_of-injective : (a b : Result (Option ℕ) Refusal) → near_of a ≡ near_of b → a ≡ b
unfolding near_of
near_of-injective (Ok m) (Ok n) e = ap Ok (cc)
near_of-injective (Ok m) (Err s) e = cc
near_of-injective (Err r) (Ok n) e = cc
near_of-injective (Err r) (Err s) e = ap Err (number-injective r s (cc))

pub neighbour-unique : (g : Grid) (c d : ℕ) (a b : Result (Option ℕ) Refusal) → near_of a ≡ neighbour_asked g c d → near_of b ≡ neighbour_asked g c d → a ≡ b
neighbour-unique g c d a b p q = near_of-injective a b (p ∙ sym q)
