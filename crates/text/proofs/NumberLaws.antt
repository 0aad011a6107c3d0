-- Laws of numbers as text: the digits of a number are those of its tenth and one more. Assumes nothing.
use mathlib.Core.Bool.{Bool, true, false, cond}
use mathlib.Core.List.{List, [], ◌∷◌, ◌++◌}
use mathlib.Core.Path.{◌≡◌, sym, ap, ◌∙◌}
use Prim.Native.Nat.{ℕ, zero, suc, ◌+◌, ◌*◌, ◌/◌, ◌%◌, ◌^◌, ◌≤◌, ◌<◌}
use native.Mathlib.Numerals.{unary_clauses}
use native.Mathlib.Omega.{arith}
use lib.Dec.{ltb}
use lib.ListN.{length, length-append}
use borrow.Author.Tests.{lt-ltb, le-ltb}
use Rattle.text.specs.Numbers.{digits, decimal}

-- a number below 10, and one that is not, at one place more
less : (k n : ℕ) → n < 10 → digits (suc k) n ≡ (48 + n % 10) ∷ []
unfolding digits
less k n l = simp (lt-ltb n 10 l)

more : (k n : ℕ) → 10 ≤ n → digits (suc k) n ≡ digits k (n / 10) ++ (48 + n % 10) ∷ []
unfolding digits
more k n l = simp (le-ltb n 10 l)

-- where there are places enough, one more changes nothing
enough : (k n : ℕ) → n < 10 ^ suc k → digits (suc (suc k)) n ≡ digits (suc k) n
unfolding digits
enough zero n h = simp (lt-ltb n 10 h)
enough (suc k) n h =
    let tens : 10 ^ suc (suc k) ≡ 10 ^ suc k * 10 = simp unary_clauses (omega arith) in
    ap (λ (t : List ℕ). cond (ltb n 10) [] t ++ (48 + n % 10) ∷ []) (enough k (n / 10) (tenth (10 ^ suc k) (rw tens at h)))
  where
    tenth : (m : ℕ) → n < m * 10 → n / 10 < m
    tenth m h = omega arith

pub decimal_small : (n : ℕ) → n < 10 → decimal n ≡ (48 + n % 10) ∷ []
unfolding decimal
decimal_small n l = less 19 n l

pub decimal_large : (n : ℕ) → 10 ≤ n → n < 2 ^ 64 → decimal n ≡ decimal (n / 10) ++ (48 + n % 10) ∷ []
unfolding decimal
decimal_large n l fits =
    more 19 n l ∙ ap (λ (t : List ℕ). t ++ (48 + n % 10) ∷ []) (sym (enough 18 (n / 10) (omega arith)))

-- there are never more digits than places
digits-few : (places n : ℕ) → length (digits places n) ≤ places
unfolding digits
digits-few zero n = omega arith
digits-few (suc k) n = simp length-append (front (ltb n 10) (digits-few k (n / 10)))
  where
    front : (small : Bool) → length (digits k (n / 10)) ≤ k → length (cond small [] (digits k (n / 10))) + 1 ≤ suc k
    front true h = omega arith
    front false h = omega arith

pub decimal_few : (n : ℕ) → length (decimal n) ≤ 20
unfolding decimal
decimal_few n = digits-few 20 n

pub length-decimal : (n : ℕ) → 10 ≤ n → n < 2 ^ 64 → length (decimal n) ≡ length (decimal (n / 10)) + 1
length-decimal n l fits = ap length (decimal_large n l fits) ∙ length-append (decimal (n / 10)) _

pub ruleset in_decimal = (decimal_small, decimal_large, decimal_few, length-decimal)
