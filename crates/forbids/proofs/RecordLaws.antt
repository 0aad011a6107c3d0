-- Forbids that are lent as records, one by one: the one at a place, and the first refusal from a place on; what the walks over them cite.
-- Follows docs/RULES.md, "Refusals".
use mathlib.Core.Bool.{Bool, true, false, not}
use mathlib.Core.List.{List, ◌∷◌, []}
use mathlib.Core.Path.{◌≡◌, sym, subst}
use Prim.Native.Nat.{ℕ, zero, suc, ◌<◌}
use native.Mathlib.Omega.{arith}
use lib.Dec.{eqb, T, T_not, eqb→eq}
use lib.ListN.{length, get_or}
use borrow.Author.Tests.{eq-eqb}
use Rattle.forbids.specs.declared.Forbid.{Forbid}
use Rattle.forbids.specs.Forbids.{Placed}

-- ---- a number that is tested

pub nonzero : (r : ℕ) → T (not (eqb r 0)) → r ≡ 0 → ⊥
nonzero r t z = T_not (eqb r 0) t (subst T (sym (eq-eqb r 0 z)) tt)

twice : (t : Bool) → T (not (not t)) → T t
twice true h = tt
twice false h = h

pub is_zero : (r : ℕ) → T (not (not (eqb r 0))) → r ≡ 0
is_zero r t = eqb→eq r 0 (twice (eqb r 0) t)

-- ---- the forbid at a place

-- what stands past the end
abbrev pub no_forbid : Forbid
no_forbid = record { cell = 0; pattern = 0; keep = 0 }

abbrev pub lent_at : List Forbid → ℕ → Forbid
lent_at fs k = get_or fs k no_forbid

-- it is placed where all are
pub placed_at : (P n : ℕ) (fs : List Forbid) (k : ℕ) → Placed P n fs → k < length fs → ((lent_at fs k).cell < n) × ((lent_at fs k).pattern < P)
placed_at P n [] k h l = absurd (omega arith)
placed_at P n (f ∷ fs) zero h l = (h.0, h.1)
placed_at P n (f ∷ fs) (suc k) h l = placed_at P n fs k h.2 (omega arith)
