-- Laws of numbers: which operations on floats give no NaN. Only a NaN, an infinity less an infinity and a quotient by 0 could give one.
-- Assumes nothing.
use mathlib.Core.Bool.{Bool, true, false, cond, ◌&&◌, beq}
use Prim.Native.Nat.{ℕ, zero, suc, ◌+◌, ◌-◌, ◌*◌, ◌^◌, ◌≤◌}
use native.Mathlib.Omega.{arith}
use lib.Dec.{T, ltb, ltb→lt}
use lib.Ieee.{Float, nan, inf, fin, Format, prec, emax, low, up, down, odd, units, round, sum, add, sub, neg, div, of_int, is_nan}
use lib.Ieee.Back.{round_whole}
use lib.Ieee.Fits.{round_is}
use lib.Ieee.Positive.{positive, positive_of_value}
use lib.Ieee.Scale.{finite}
use lib.IntN.{pos}
use borrow.Author.Tests.{ne_eqb}
use Rattle.order.specs.Numbers.{Number}

cond-number : (t : Bool) (x y : Float) → Number x → Number y → Number (cond t x y)
cond-number true x y p q = p
cond-number false x y p q = q

odd_number : (d : ℕ) (s : Bool) (q k l : ℕ) → Number (odd d s q k l)
unfolding odd is_nan
odd_number d s zero k l = tt
odd_number d s (suc q) k l = tt

units_number : (f : Format) (s : Bool) (q k : ℕ) → Number (units f s q k)
unfolding units is_nan
units_number f s q k = cond-number (ltb (q * 2 ^ k) (2 ^ (low f + suc (emax f)))) (odd (suc (prec f)) s q k (low f)) (inf s) (odd_number (suc (prec f)) s q k (low f)) tt

pub round_number : (f : Format) (s : Bool) (a c : ℕ) → Number (round f s a c)
round_number f s a c = rw (round_is f s a c) (units_number f s _ _)

sum_number : (f : Format) (s : Bool) (a : ℕ) (t : Bool) (b c : ℕ) → Number (sum f s a t b c)
unfolding sum
sum_number f s a t b c =
    cond-number (beq s t) (round f s (a + b) c) (cond (ltb a b) (round f t (b - a) c) (round f (s && ltb b a) (a - b) c)) (round_number f s (a + b) c)
    (cond-number (ltb a b) (round f t (b - a) c) (round f (s && ltb b a) (a - b) c) (round_number f t (b - a) c) (round_number f (s && ltb b a) (a - b) c))

pub add-number : (f : Format) (x y : Float) → Number x → T (finite y) → Number (add f x y)
unfolding add is_nan
add-number f nan y p q = absurd p
add-number f (inf s) nan p q = absurd q
add-number f (inf s) (inf t) p q = absurd q
add-number f (inf s) (fin t n d) p q = tt
add-number f (fin s m e) nan p q = absurd q
add-number f (fin s m e) (inf t) p q = absurd q
add-number f (fin s m e) (fin t n d) p q = sum_number f s (m * up e * down d) t (n * up d * down e) (down e * down d)

add_to_finite : (f : Format) (x y : Float) → T (finite x) → Number y → Number (add f x y)
unfolding add is_nan
add_to_finite f nan y p q = absurd p
add_to_finite f (inf s) y p q = absurd p
add_to_finite f (fin s m e) nan p q = absurd q
add_to_finite f (fin s m e) (inf t) p q = tt
add_to_finite f (fin s m e) (fin t n d) p q = sum_number f s (m * up e * down d) t (n * up d * down e) (down e * down d)

neg-number : (x : Float) → Number x → Number (neg x)
unfolding neg is_nan
neg-number nan p = absurd p
neg-number (inf s) p = tt
neg-number (fin s m e) p = tt

neg-finite : (x : Float) → T (finite x) → T (finite (neg x))
unfolding neg
neg-finite nan p = absurd p
neg-finite (inf s) p = absurd p
neg-finite (fin s m e) p = tt

-- a number less a finite one, and a finite one less a number
pub sub_number : (f : Format) (x y : Float) → Number x → T (finite y) → Number (sub f x y)
unfolding sub
sub_number f x y p q = add-number f x (neg y) p (neg-finite y q)

pub sub-from-finite : (f : Format) (x y : Float) → T (finite x) → Number y → Number (sub f x y)
unfolding sub
sub-from-finite f x y p q = add_to_finite f x (neg y) p (neg-number y q)

-- a number by one that is finite and above 0
pub div-number : (f : Format) (x y : Float) → Number x → T (positive y) → Number (div f x y)
unfolding div is_nan
div-number f nan y p q = absurd p
div-number f (inf s) nan p q = absurd q
div-number f (inf s) (inf t) p q = absurd q
div-number f (inf s) (fin t n d) p q = tt
div-number f (fin s m e) nan p q = absurd q
div-number f (fin s m e) (inf t) p q = absurd q
div-number f (fin s m e) (fin true n d) p q = absurd q
div-number f (fin s m e) (fin false n d) p q = rw (ne_eqb n 0 (λ z. omega (arith, ltb→lt 0 n q))) (round_number f _ _ _)

-- a whole number that the format holds, above 0
pub whole-positive : (f : Format) (n : ℕ) → 1 ≤ n → n ≤ 2 ^ prec f → T (positive (of_int f (pos n)))
unfolding of_int
whole-positive f n h k = positive_of_value (round f false n 1) n 1 (round_whole f false n k) h
