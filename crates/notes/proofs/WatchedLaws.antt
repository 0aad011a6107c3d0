-- Laws of blocks that are touched where something changes: nothing changed, a change at one cell, and changes in turn.
-- Follows docs/RULES.md, "Run". Assumes nothing.
use mathlib.Core.List.{List}
use mathlib.Core.Logic.{inl, inr, ⊎_elim}
use mathlib.Core.Path.{◌≡◌, refl, sym, ap, ◌∙◌}
use Prim.Native.Nat.{ℕ, ◌<◌}
use native.Mathlib.Decide.{ℕ_discrete}
use lib.Ieee.{Float}
use lib.ListN.{length, get_or}
use Rattle.notes.specs.Blocks.{block_of, block_at, SameCell, Watched}

module _ {n : ℕ} {D : List ℕ} {floats : List Float} {marks : List ℕ} where
  -- nothing changed
  pub watched_same : Watched n D floats marks D floats marks
  watched_same = record { long = refl; each = λ y _. inr (refl, λ c _ _. (refl, refl, refl)) }

  module _ {D' : List ℕ} {floats' : List Float} {marks' : List ℕ} where
    -- only cell c changed, and its block is touched
    pub watched-at : (c : ℕ) → length marks' ≡ length marks → get_or marks' (block_at n (block_of c)) 0 ≡ 0
        → ((y : ℕ) → (y ≡ block_of c → ⊥) → get_or marks' (block_at n y) 0 ≡ get_or marks (block_at n y) 0)
        → ((k : ℕ) → k < n → (k ≡ c → ⊥) → SameCell n D floats marks D' floats' marks' k) → Watched n D floats marks D' floats' marks'
    watched-at c long here others same =
        record {
          long = long;
          each = λ y _.
              elim (ℕ_discrete y (block_of c)) [
                | yes e ↦ inl (ap (λ (z : ℕ). get_or marks' (block_at n z) 0) e ∙ here)
                | no e ↦ inr (others y e, λ k hk b. same k hk (λ z. e (sym b ∙ ap block_of z)))
              ];
        }

    -- changes in turn
    pub watched-turn : {D'' : List ℕ} {floats'' : List Float} {marks'' : List ℕ} → Watched n D floats marks D' floats' marks'
        → Watched n D' floats' marks' D'' floats'' marks'' → Watched n D floats marks D'' floats'' marks''
    watched-turn {D''} {floats''} {marks''} W W' =
        record {
          long = W'.long ∙ W.long;
          each = λ y h.
              ⊎_elim
              (λ z. inl z)
              (λ v.
              ⊎_elim
              (λ z. inl (v.0 ∙ z))
              (λ w. inr (v.0 ∙ w.0, λ c hc b. let (x, f, m) = v.1 c hc b in let (x₀, f₀, m₀) = w.1 c hc b in (x ∙ x₀, f ∙ f₀, m ∙ m₀)))
              (W.each y h))
              (W'.each y h);
        }
