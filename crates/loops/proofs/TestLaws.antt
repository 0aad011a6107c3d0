-- Laws of tests: what a loop that looks at each number or entry in turn needs, and what the whole test says in both directions.
-- Assumes nothing.
use mathlib.Core.Bool.{Bool, true, false, ◌&&◌, ◌||◌, false≢true}
use mathlib.Core.List.{List, [], ◌∷◌}
use mathlib.Core.Logic.{⊎_elim}
use mathlib.Core.Path.{◌≡◌, refl, sym, ap, subst}
use Prim.Native.Nat.{ℕ, zero, suc, ◌+◌, ◌≤◌, ◌<◌}
use native.Mathlib.Decide.{ℕ_discrete, le_ind}
use native.Mathlib.Nat.{le_of_suc-le-suc, not-suc-le-zero, eq-or-lt_of_le, le_refl, le_trans, le-suc, le_antisymm}
use native.Mathlib.Numerals.{add-one}
use native.Mathlib.Omega.{arith}
use lib.Dec.{T, eqb}
use lib.Ieee.Fits.{and_i, and_l, and_r}
use lib.ListN.{length, get_or, drop, drop_of_length-le}
use lib.Seq.{drop-cons}
use borrow.Author.Tests.{eq-eqb, ne_eqb}
use Rattle.std.specs.List.{list_any}
use Rattle.loops.specs.Tests.{all_to, every, elem}

-- ---- Bools and types

pub T_true : {b : Bool} → b ≡ true → T b
T_true {b} e = rw e tt

pub true-T : (b : Bool) → T b → b ≡ true
true-T true t = refl
true-T false t = absurd t

pub both : (a b : Bool) → (a && b) ≡ true → (a ≡ true) × (b ≡ true)
both true b e = (refl, e)
both false b e = absurd (false≢true e)

pub neither : (a b : Bool) → (a || b) ≡ false → (a ≡ false) × (b ≡ false)
neither true b e = absurd (false≢true (sym e))
neither false b e = (refl, e)

-- ---- every number below a bound

module _ (f : ℕ → Bool) where
  pub all_none : all_to 0 f ≡ true
  unfolding all_to
  all_none = refl

  -- one more that passes
  pub all_more : (i : ℕ) → all_to i f ≡ true → f i ≡ true → all_to (i + 1) f ≡ true
  unfolding all_to
  all_more i a b = rw (add-one i, a, b)

  -- the loop is over
  pub all_end : (i n : ℕ) → i ≤ n → n ≤ i → all_to i f ≡ true → all_to n f ≡ true
  all_end i n a b e = subst (λ (m : ℕ). all_to m f ≡ true) (le_antisymm a b) e

  -- one that fails, below the bound
  pub all-fails : (i n : ℕ) → i < n → f i ≡ false → all_to n f ≡ false
  unfolding all_to
  all-fails i n l e = le_ind (λ (m : ℕ). all_to m f ≡ false) (here (all_to i f)) (λ m k h. rw h) n l
    where
      here : (b : Bool) → b && f i ≡ false
      here true = e
      here false = refl

  -- the test is true exactly where it passes at each
  pub all-at : (n : ℕ) → T (all_to n f) → (k : ℕ) → k < n → T (f k)
  unfolding all_to
  all-at zero t k h = absurd (not-suc-le-zero h)
  all-at (suc n) t k h =
      ⊎_elim (λ e. subst (λ (i : ℕ). T (f i)) (sym e) (and_r (all_to n f) (f n) t)) (λ l. all-at n (and_l (all_to n f) (f n) t) k l)
      (eq-or-lt_of_le (le_of_suc-le-suc h))

  pub all_of : (n : ℕ) → ((k : ℕ) → k < n → T (f k)) → T (all_to n f)
  unfolding all_to
  all_of zero h = tt
  all_of (suc n) h = and_i (all_to n f) (f n) (all_of n (λ k l. h k (le_trans l (le-suc n)))) (h n (le_refl (suc n)))

-- ---- every entry of a list

module _ (f : ℕ → Bool) (l : List ℕ) {R : Bool} where
  every_here : {i : ℕ} → i < length l → every f (drop i l) ≡ R → (f (get_or l i 0) && every f (drop (i + 1) l)) ≡ R
  unfolding every
  every_here {i} h inv = rw add-one (rw (drop-cons l i 0 h) at inv)

  -- a turn at i, which passed
  pub every-turn : {i x : ℕ} → i < length l → x ≡ get_or l i 0 → f x ≡ true → every f (drop i l) ≡ R → every f (drop (i + 1) l) ≡ R
  every-turn {i} {x} h e t inv =
      let k : f (get_or l i 0) ≡ true = rw e at t in
      rw k at (every_here h inv)

  -- a turn that failed ends the loop
  pub every-stop : {i x : ℕ} → i < length l → x ≡ get_or l i 0 → f x ≡ false → every f (drop i l) ≡ R → false ≡ R
  every-stop {i} {x} h e t inv =
      let k : f (get_or l i 0) ≡ false = rw e at t in
      rw k at (every_here h inv)

  pub every-end : {i : ℕ} → length l ≤ i → every f (drop i l) ≡ R → true ≡ R
  unfolding every
  every-end h inv = rw (drop_of_length-le l h) at inv

-- the test is true exactly where it passes at each entry
pub every-at : (f : ℕ → Bool) (l : List ℕ) → T (every f l) → (k : ℕ) → k < length l → T (f (get_or l k 0))
unfolding every
every-at f [] t k h = absurd (not-suc-le-zero h)
every-at f (x ∷ l) t zero h = and_l (f x) (every f l) t
every-at f (x ∷ l) t (suc k) h = every-at f l (and_r (f x) (every f l) t) k (le_of_suc-le-suc h)

-- where the test fails, it fails at some entry
pub every-fails : (f : ℕ → Bool) (l : List ℕ) → every f l ≡ false → (k : ℕ) × (k < length l) × (f (get_or l k 0) ≡ false)
unfolding every
every-fails f [] e = absurd (false≢true (sym e))
every-fails f (x ∷ l) e = go (f x) refl (every-fails f l)
  where
    go : (b : Bool) → f x ≡ b → (every f l ≡ false → (k : ℕ) × (k < length l) × (f (get_or l k 0) ≡ false))
        → (k : ℕ) × (k < length (x ∷ l)) × (f (get_or (x ∷ l) k 0) ≡ false)
    go true q rest = let (k, h, z) = rest (rw q at e) in (suc k, omega arith, z)
    go false q rest = (0, omega arith, q)

pub every-elem : (f : ℕ → Bool) (l : List ℕ) → T (every f l) → (x : ℕ) → T (elem x l) → T (f x)
unfolding every elem
every-elem f [] t x h = absurd h
every-elem f (y ∷ l) t x h =
    elim (ℕ_discrete x y) [
      | yes e ↦ subst (λ (z : ℕ). T (f z)) (sym e) (and_l (f y) (every f l) t)
      | no e ↦ every-elem f l (and_r (f y) (every f l) t) x (rw (ne_eqb x y e) at h)
    ]

pub every_of : (f : ℕ → Bool) (l : List ℕ) → ((x : ℕ) → T (elem x l) → T (f x)) → T (every f l)
unfolding every elem
every_of f [] h = tt
every_of f (y ∷ l) h = and_i (f y) (every f l) (h y (rw (eq-eqb y y refl) tt)) (every_of f l (λ x i. h x (later (eqb x y) (elem x l) i)))
  where
    later : (b c : Bool) → T c → T (b || c)
    later true c i = tt
    later false c i = i

-- ---- an entry that is looked for

-- what `any` finds
pub any-elem : (x : ℕ) (l : List ℕ) → list_any (λ y. eqb x y) l ≡ elem x l
unfolding elem
any-elem x [] = refl
any-elem x (y ∷ l) = ap (λ (b : Bool). eqb x y || b) (any-elem x l)

module _ (x : ℕ) (l : List ℕ) {R : Bool} where
  elem-here : {i : ℕ} → i < length l → elem x (drop i l) ≡ R → (eqb x (get_or l i 0) || elem x (drop (i + 1) l)) ≡ R
  unfolding elem
  elem-here {i} h inv = rw add-one (rw (drop-cons l i 0 h) at inv)

  -- a turn at i, which is another
  pub elem-turn : {i y : ℕ} → i < length l → y ≡ get_or l i 0 → (x ≡ y → ⊥) → elem x (drop i l) ≡ R → elem x (drop (i + 1) l) ≡ R
  elem-turn {i} {y} h e n inv =
      let k : eqb x (get_or l i 0) ≡ false = rw e at (ne_eqb x y n) in
      rw k at (elem-here h inv)

  -- a turn that found it ends the loop
  pub elem-found : {i y : ℕ} → i < length l → y ≡ get_or l i 0 → x ≡ y → elem x (drop i l) ≡ R → true ≡ R
  elem-found {i} {y} h e n inv =
      let k : eqb x (get_or l i 0) ≡ true = rw e at (eq-eqb x y n) in
      rw k at (elem-here h inv)

  pub elem_end : {i : ℕ} → length l ≤ i → elem x (drop i l) ≡ R → false ≡ R
  unfolding elem
  elem_end h inv = rw (drop_of_length-le l h) at inv
