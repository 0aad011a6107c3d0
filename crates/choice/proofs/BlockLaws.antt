-- Laws of one block: its mark stands for the best of its cells; and of the blocks together: the join of their bests is the best of all cells.
-- Follows docs/RULES.md, "Run". Assumes nothing.
use mathlib.Core.Bool.{Bool, true, false, cond}
use mathlib.Core.List.{List}
use mathlib.Core.Path.{◌≡◌, refl, sym, ap, ◌∙◌, subst}
use Prim.Native.Nat.{ℕ, ◌+◌, ◌-◌, ◌*◌, ◌≤◌, ◌<◌, min}
use native.Mathlib.Nat.{zero-add}
use native.Mathlib.Omega.{arith}
use lib.Dec.{ltb}
use lib.Ieee.{Float}
use lib.ListN.{length, take, length-take}
use borrow.Author.Tests.{ltb-true, ltb-false, lt-ltb, le-ltb}
use Rattle.choice.specs.Observer.{Notes, notes_in, Lengths, note_at, Best, At, Empty, join, best_in, best_at}
use Rattle.choice.specs.Cache.{start_of, code, decode, code_at}
use Rattle.choice.proofs.ObserverLaws.{Ordered, join-empty}
use Rattle.choice.proofs.JoinLaws.{best_in-parts, best_in-out, Own, best_in-own}
use Rattle.choice.proofs.BestLaws.{best_none, best-cell}

-- ---- a code

decode-code : (v : Notes) (s k : ℕ) (b : Best) → Own v s k b → decode v s (code s b) ≡ b
unfolding decode
decode-code v s k Empty h = refl
decode-code v s k (At c n) h =
    let a : s + (c - s + 2 - 2) ≡ c = omega (arith, h.0) in
    ap (λ t. cond t Empty (At (s + (c - s + 2 - 2)) (note_at v (s + (c - s + 2 - 2))))) (le-ltb (c - s + 2) 2 (omega arith))
    ∙ ap (λ d. At d (note_at v d)) a ∙ ap (At c) (sym h.2)

code_inside : (v : Notes) (s k n : ℕ) (b : Best) → Own v s k b → s + k ≤ n → 2 ≤ code s b → s + (code s b - 2) < n
code_inside v s k n Empty h l g = absurd (omega arith)
code_inside v s k n (At c m) h l g = omega (arith, h.0, h.1)

-- no more counts than cells
pub counts-few : (n : ℕ) (marks : List ℕ) → length (take n marks) ≤ n
counts-few n marks = omega (arith, length-take n marks)

-- ---- a block, which the last of n cells may cut short

module _ (v : Notes) (n y : ℕ) (few : length v.counts ≤ n) (h : start_of y ≤ n) where
  block-short : best_in v (start_of y) 32 ≡ best_in v (start_of y) (min 32 (n - start_of y))
  block-short = go (ltb (n - y * 32) 32) refl
    where
      go : (t : Bool) → ltb (n - y * 32) 32 ≡ t → best_in v (y * 32) 32 ≡ best_in v (y * 32) (min 32 (n - y * 32))
      go true p =
          let q : n - y * 32 < 32 = ltb-true (n - y * 32) 32 p in
          let a : 32 ≡ n - y * 32 + (32 - (n - y * 32)) = omega arith in
          let b : min 32 (n - y * 32) ≡ n - y * 32 = omega arith in
          ap (best_in v (y * 32)) a ∙ best_in-out v (y * 32) (n - y * 32) (32 - (n - y * 32)) (omega arith) ∙ ap (best_in v (y * 32)) (sym b)
      go false p =
          let q : 32 ≤ n - y * 32 = ltb-false (n - y * 32) 32 p in
          let b : min 32 (n - y * 32) ≡ 32 = omega arith in
          ap (best_in v (y * 32)) (sym b)

  block-own : Own v (start_of y) (min 32 (n - start_of y)) (best_in v (start_of y) 32)
  block-own = subst (Own v (start_of y) (min 32 (n - start_of y))) (sym block-short) (best_in-own v (start_of y) (min 32 (n - start_of y)))

  -- the cell that the mark names is one of the cells
  pub code_at-inside : 2 ≤ code_at v y → start_of y + (code_at v y - 2) < n
  unfolding code_at
  code_at-inside g = code_inside v (start_of y) (min 32 (n - start_of y)) n (best_in v (start_of y) 32) block-own (omega arith) g

-- a look at the cells of a block
module _ {cells : ℕ} {noise domains marks : List ℕ} {floats : List Float} {end : ℕ} (weighted y b : ℕ)
    (each : Lengths cells noise domains floats marks × (start_of y ≤ cells)) (e : end ≡ start_of y + min 32 (cells - start_of y))
    (is : best_at cells (notes_in cells noise domains floats marks weighted) b ≡ best_in (notes_in cells noise domains floats marks weighted) (start_of y) (end - start_of y)) where
  abbrev v : Notes
  v = notes_in cells noise domains floats marks weighted

  looked : best_at cells v b ≡ best_in v (start_of y) (min 32 (cells - start_of y))
  looked = let size : end - y * 32 ≡ min 32 (cells - y * 32) = omega arith in is ∙ ap (best_in v (start_of y)) size

  look-code_at : code (start_of y) (best_at cells v b) ≡ code_at v y
  unfolding code_at
  look-code_at = ap (code (start_of y)) (looked ∙ sym (block-short v cells y (counts-few cells marks) each.1))

  pub look_none : b ≡ cells → 1 ≡ code_at v y
  look_none h = sym (ap (code (start_of y)) (ap (best_at cells v) h ∙ best_none cells v)) ∙ look-code_at

  module _ (h : b ≡ cells → ⊥) where
    pub look-near : (start_of y ≤ b) × (b < start_of y + 32)
    look-near =
        let own : Own v (start_of y) (min 32 (cells - start_of y)) (At b (note_at v b)) =
        subst (Own v (start_of y) (min 32 (cells - start_of y))) (sym looked ∙ best-cell cells v h) (best_in-own v (start_of y) (min 32 (cells - start_of y))) in
        (own.0, omega (arith, own.1))

    pub look-cell : {r : ℕ} → r ≡ b - start_of y + 2 → r ≡ code_at v y
    look-cell q = q ∙ sym (ap (code (start_of y)) (best-cell cells v h)) ∙ look-code_at

-- the mark stands for the best of the block's cells
pub decode-code_at : (v : Notes) (y : ℕ) → decode v (start_of y) (code_at v y) ≡ best_in v (start_of y) 32
unfolding code_at
decode-code_at v y = decode-code v (start_of y) 32 (best_in v (start_of y) 32) (best_in-own v (start_of y) 32)

-- ---- what a mark adds to the best so far

module _ (v : Notes) (start k : ℕ) (best : Best) where
  pub held_none : k < 2 → best ≡ join best (decode v start k)
  unfolding decode
  held_none h = sym (ap (λ t. join best (cond t Empty (At (start + (k - 2)) (note_at v (start + (k - 2)))))) (lt-ltb k 2 h) ∙ join-empty best)

  pub held-cell : {c : ℕ} {r : Best} → 2 ≤ k → c ≡ start + (k - 2) → r ≡ join best (At c (note_at v c)) → r ≡ join best (decode v start k)
  unfolding decode
  held-cell h e q =
      q ∙ ap (λ d. join best (At d (note_at v d))) e
      ∙ sym (ap (λ t. join best (cond t Empty (At (start + (k - 2)) (note_at v (start + (k - 2)))))) (le-ltb k 2 h))

-- ---- the blocks together

module _ (v : Notes) where
  pub best_in-blocks : Ordered v → (y : ℕ) → best_in v 0 ((y + 1) * 32) ≡ join (best_in v 0 (y * 32)) (best_in v (start_of y) 32)
  best_in-blocks o y =
      let a : (y + 1) * 32 ≡ y * 32 + 32 = omega arith in
      ap (best_in v 0) a ∙ best_in-parts v o 0 (y * 32) 32 ∙ ap (λ (i : ℕ). join (best_in v 0 (y * 32)) (best_in v i 32)) (zero-add (y * 32))

  -- all blocks are all cells
  pub best_in-all : (n y : ℕ) → length v.counts ≤ n → n ≤ y * 32 → best_in v 0 (y * 32) ≡ best_in v 0 n
  best_in-all n y few h =
      let a : y * 32 ≡ n + (y * 32 - n) = omega arith in
      ap (best_in v 0) a ∙ best_in-out v 0 n (y * 32 - n) (omega arith)
