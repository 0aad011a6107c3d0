-- Laws of lists of numbers: after a store, of a part, and of one number repeated. Assumes nothing.
use mathlib.Core.Bool.{Bool, true, false}
use mathlib.Core.List.{List}
use mathlib.Core.Path.{◌≡◌, refl}
use Prim.Native.Nat.{ℕ, ◌+◌, ◌<◌}
use native.Mathlib.Omega.{arith}
use lib.Dec.{eqb}
use lib.Ieee.{Float, nan}
use lib.ListN.{length, get_or, set, drop, take, length-set, length-drop, length-take, replicate, length-replicate, get_or-replicate}
use lib.Seq.{get_or-set_same, get_or-set_other, get_or-drop, get_or-take}
use borrow.Author.Tests.{eqb-true, eqb-false}
use Rattle.order.specs.Numbers.{Number, Numbers}

pub numbers-set : (l : List Float) (c : ℕ) (e : Float) → Number e → Numbers l → Numbers (set l c e)
numbers-set l c e N o = record { at = λ i h. at i (omega (arith, length-set l c e)) (eqb i c) refl }
  where
    at : (i : ℕ) → i < length l → (t : Bool) → eqb i c ≡ t → Number (get_or (set l c e) i nan)
    at i h true p = rw (eqb-true i c p, get_or-set_same l c e nan (omega (arith, eqb-true i c p))) N
    at i h false p = rw (get_or-set_other l c i e nan (eqb-false i c p)) (o.at i h)

pub numbers-drop : (l : List Float) (k : ℕ) → Numbers l → Numbers (drop k l)
numbers-drop l k o = record { at = λ i h. rw (get_or-drop k l i nan) (o.at (k + i) (omega (arith, length-drop k l))) }

pub numbers-take : (l : List Float) (k : ℕ) → Numbers l → Numbers (take k l)
numbers-take l k o = record { at = λ i h. rw (get_or-take k l i nan (omega (arith, length-take k l))) (o.at i (omega (arith, length-take k l))) }

pub numbers_same : (n : ℕ) (x : Float) → Number x → Numbers (replicate n x)
numbers_same n x N = record { at = λ i h. rw (get_or-replicate n i x nan (omega (arith, length-replicate {A = Float} n x))) N }
