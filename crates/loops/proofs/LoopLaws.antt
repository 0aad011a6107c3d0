-- Laws of loops: a turn and the end, for an invariant that says: what is left to do, done to the state now, is the whole, done to the state at entry.
-- Assumes nothing.
use mathlib.Core.Bool.{Bool, true, false}
use mathlib.Core.List.{List, ◌∷◌}
use mathlib.Core.Path.{◌≡◌}
use Prim.Native.Nat.{ℕ, zero, suc, ◌+◌, ◌-◌, ◌≤◌, ◌<◌}
use native.Mathlib.Numerals.{add-one}
use native.Mathlib.Omega.{arith}
use lib.ListN.{length, get_or, drop, drop_of_length-le}
use lib.Seq.{drop-cons}
use Rattle.loops.specs.Loops.{each, steps, until}

module _ {S : Type 0} (f : ℕ → S → S) (xs : List ℕ) {R : S} where
  -- a turn at i, which took s to s'
  pub each_turn : {i x : ℕ} {s s' : S} → i < length xs → x ≡ get_or xs i 0 → s' ≡ f x s → each f (drop i xs) s ≡ R → each f (drop (i + 1) xs) s' ≡ R
  unfolding each
  each_turn {i} {x} {s} {s'} h at e inv =
      let k : each f (get_or xs i 0 ∷ drop (suc i) xs) s ≡ R = rw (drop-cons xs i 0 h) at inv in
      rw (add-one, e, at) k

  pub each-end : {i : ℕ} {s : S} → length xs ≤ i → each f (drop i xs) s ≡ R → s ≡ R
  unfolding each
  each-end {i} {s} h inv = rw (drop_of_length-le xs h) at inv

module _ {S : Type 0} (f : ℕ → S → S) (end : ℕ) {R : S} where
  pub steps-turn : {i : ℕ} {s s' : S} → i < end → s' ≡ f i s → steps f i (end - i) s ≡ R → steps f (i + 1) (end - (i + 1)) s' ≡ R
  unfolding steps
  steps-turn {i} {s} {s'} h e inv =
      let n : end - i ≡ suc (end - (i + 1)) = omega arith in
      let k : steps f i (suc (end - (i + 1))) s ≡ R = rw n at inv in
      rw (add-one i, e) (rw (add-one i) at k)

  pub steps-end : {i : ℕ} {s : S} → end ≤ i → steps f i (end - i) s ≡ R → s ≡ R
  unfolding steps
  steps-end {i} {s} h inv =
      let n : end - i ≡ 0 = omega arith in
      rw n at inv

-- what each step keeps, all keep
pub steps-keep : {S : Type 0} (P : S → Type 0) (f : ℕ → S → S) (i count : ℕ) {s : S} → ((j : ℕ) (t : S) → j < i + count → P t → P (f j t)) → P s → P (steps f i count s)
unfolding steps
steps-keep P f i zero {s} h p = p
steps-keep P f i (suc count) {s} h p = steps-keep P f (suc i) count (λ j t l. h j t (omega arith)) (h i s (omega arith) p)

module _ {S : Type 0} (done : S → Bool) (f : S → S) {R : S} where
  pub until-turn : {k k' : ℕ} {s s' : S} → done s ≡ false → k ≡ suc k' → s' ≡ f s → until done f k s ≡ R → until done f k' s' ≡ R
  unfolding until
  until-turn {k} {k'} {s} {s'} t n e inv =
      let j : until done f (suc k') s ≡ R = rw n at inv in
      rw e (rw (t, until) at j)

  pub until_end : (k : ℕ) {s : S} → done s ≡ true → until done f k s ≡ R → s ≡ R
  unfolding until
  until_end zero t inv = inv
  until_end (suc k) t inv = rw (t, until) at inv
