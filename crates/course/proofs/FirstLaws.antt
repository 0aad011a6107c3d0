-- The first note of a run: a first count comes of some weight. Follows docs/RULES.md, "Run".
use mathlib.Core.List.{List}
use mathlib.Core.Path.{◌≡◌, sym, ap, ◌∙◌}
use Prim.Native.Nat.{ℕ, ◌≤◌}
use native.Mathlib.Decide.{dec_lt}
use native.Mathlib.Omega.{arith}
use lib.ListN.{length}
use lib.Bits.{and_self}
use borrow.Author.Tests.{lt-leb}
use Rattle.words.specs.Words.{how_many}
use Rattle.adjacency.specs.Weights.{whole_weight, weight_sum, mask}
use Rattle.course.specs.Run.{first_count}
use Rattle.words.proofs.CountLaws.{many_none}
use Rattle.adjacency.proofs.WeightLaws.{weight_sum-le, zero-weight_sum}

module _ (ws : List ℕ) {n : ℕ} (e : n ≡ first_count ws) where
  -- with no weight at all no pattern is weighted
  weightless : whole_weight ws ≡ 0 → first_count ws ≡ 0
  unfolding first_count
  weightless z =
      let light : weight_sum ws (mask ws) ≡ 0 = omega (arith, z, weight_sum-le ws (mask ws)) in
      let none : mask ws ≡ 0 = sym (and_self (mask ws)) ∙ zero-weight_sum ws (mask ws) light in
      let many : how_many (length ws) (mask ws) ≡ 0 = ap (how_many (length ws)) none ∙ many_none (length ws) in
      rw (lt-leb 2 (how_many (length ws) (mask ws)) (omega (arith, many)))

  -- a first count comes of some weight
  pub weight-some : (n ≡ 0 → ⊥) → 1 ≤ whole_weight ws
  weight-some h = elim (dec_lt 0 (whole_weight ws)) [ yes l ↦ l | no l ↦ absurd (h (e ∙ weightless (omega (arith, l)))) ]
