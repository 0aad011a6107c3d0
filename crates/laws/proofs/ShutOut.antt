-- Programs that the contract of `run` shuts out, each with an input on which the definition differs from it, and errors that look right.
-- Follows docs/RULES.md, "Run" and "Propagation". Assumes nothing.
use mathlib.Core.List.{List, [], ◌∷◌}
use mathlib.Core.Path.{◌≡◌, refl, ap}
use Prim.Native.Nat.{ℕ, zero, suc}
use native.Mathlib.Omega.{arith}
use lib.Ieee.{of_bits, lt, sub, div, mul, of_int, eq}
use lib.ListN.{length, get_or, take, replicate}
use Rattle.adjacency.specs.Tables.{Table, table}
use Rattle.grid.specs.Grid.{grid, cells}
use Rattle.refusals.specs.Refusals.{Asked, refused, answer}
use Rattle.course.specs.Called.{End, Outcome}
use Rattle.consistency.proofs.Cases.{checker}
use Rattle.laws.proofs.Cases.{free, forbid, keep_only, Call, call, Case, case, found, stated, Hold, A, B, G, H, I}

-- ---- errors that look right

-- pattern p has pattern p + 1 to the east, p - 1 to the west, and itself above and below
abbrev pub cycle : Table
cycle = table 3 (0 ∷ 1 ∷ 2 ∷ 3 ∷ 4 ∷ 5 ∷ 6 ∷ 7 ∷ 8 ∷ 9 ∷ 10 ∷ 11 ∷ 12 ∷ []) (0 ∷ 1 ∷ 0 ∷ 2 ∷ 1 ∷ 2 ∷ 1 ∷ 0 ∷ 2 ∷ 0 ∷ 2 ∷ 1 ∷ [])

-- patterns 0 and 1 have only themselves beside them, patterns 2 and 3 each other too
abbrev pub paired : Table
paired =
    table 4 (0 ∷ 1 ∷ 2 ∷ 3 ∷ 4 ∷ 5 ∷ 6 ∷ 7 ∷ 8 ∷ 10 ∷ 12 ∷ 14 ∷ 16 ∷ 18 ∷ 20 ∷ 22 ∷ 24 ∷ [])
    (0 ∷ 0 ∷ 0 ∷ 0 ∷ 1 ∷ 1 ∷ 1 ∷ 1 ∷ 2 ∷ 3 ∷ 2 ∷ 3 ∷ 2 ∷ 3 ∷ 2 ∷ 3 ∷ 2 ∷ 3 ∷ 2 ∷ 3 ∷ 2 ∷ 3 ∷ 2 ∷ 3 ∷ [])

unfoldable pub errors : List Case
errors =
    -- an empty cell is found though the pattern that went last has no weight
    case (call checker (0 ∷ 0 ∷ []) (grid 3 1 1) (keep_only 0 0 ∷ []) []) 3 0 (0 ∷ 0 ∷ 0 ∷ [])
    -- and where the forbids alone empty it
    ∷ case (call checker (1 ∷ 1 ∷ []) (grid 1 1 0) (forbid 0 0 ∷ forbid 0 1 ∷ []) (4 ∷ [])) 3 0 (0 ∷ [])
    ∷ case (call checker (1 ∷ 1 ∷ []) (grid 2 1 0) (keep_only 0 0 ∷ keep_only 0 1 ∷ []) []) 3 0 (0 ∷ 0 ∷ [])
    -- in one propagation cell 1 loses a weight of 1, then the 100: the older entropy is less and stays, and is stale
    ∷ case (call paired (100 ∷ 1 ∷ 1 ∷ 1 ∷ []) (grid 2 1 0) (keep_only 0 2 ∷ []) (0 ∷ [])) 1 0 (4 ∷ 12 ∷ [])
    -- in two propagations the later entropy replaces it, though it is greater
    ∷ case (call paired (100 ∷ 1 ∷ 1 ∷ 1 ∷ []) (grid 2 1 0) (forbid 0 1 ∷ forbid 0 0 ∷ []) (1 ∷ [])) 1 1 (12 ∷ 8 ∷ [])
    -- a support is counted by the list for the opposite direction
    ∷ case (call cycle (1 ∷ 1 ∷ 1 ∷ []) (grid 2 1 0) (keep_only 0 0 ∷ []) []) 0 0 (1 ∷ 2 ∷ [])
    -- at width 2 wrapped, East and West are two constraints
    ∷ case (call cycle (1 ∷ 1 ∷ 1 ∷ []) (grid 2 1 1) (keep_only 0 0 ∷ []) []) 3 0 (0 ∷ 0 ∷ [])
    ∷ []

pub errors_hold : Hold errors
unfolding errors found stated lt of_bits sub div mul of_int
errors_hold = refl

-- ---- programs that are shut out

-- no program whose outcome is so for every call meets the contract: there is a call whose outcome is not
abbrev pub Shut : (Call → Outcome → Type 0) → Type 0
Shut So = (k : Call) × (So k (found k) → ⊥)

abbrev pub ends : ℕ → ℕ → Asked End
ends end used = answer (record { end = end; used = used })

-- the end, and the words used, where it is not refused
end_of : Asked End → ℕ
end_of (refused n) = 4
end_of (answer e) = e.end

used_of : Asked End → ℕ
used_of (refused n) = 0
used_of (answer e) = e.used

-- refuse all
pub refuses-all : Shut (λ k o. (n : ℕ) × (o.told ≡ refused n))
unfolding found end_of
refuses-all = (A, λ h. let z : ◌≡◌ {A = ℕ} 0 4 = ap end_of h.1 in omega arith)

-- always Contradiction
pub contradicts_all : Shut (λ k o. (used : ℕ) × (o.told ≡ ends 3 used))
unfolding found end_of
contradicts_all = (B, λ h. let z : ◌≡◌ {A = ℕ} 0 3 = ap end_of h.1 in omega arith)

-- always zero
pub zeroes-all : Shut (λ k o. o.memory.domains ≡ replicate (cells k.grid) 0)
unfolding found
zeroes-all = (B, λ h. let z : ◌≡◌ {A = ℕ} 1 0 = ap (λ (D : List ℕ). get_or D 0 0) h in omega arith)

-- change nothing
pub changes-nothing : Shut (λ k o. o.memory.domains ≡ replicate (cells k.grid) 7)
unfolding found
changes-nothing = (A, λ h. let z : ◌≡◌ {A = ℕ} 1 7 = ap (λ (D : List ℕ). get_or D 0 0) h in omega arith)

-- the first forbid, and skip the rest
pub lays-one-forbid : Shut (λ k o. o ≡ found (call k.table k.weights k.grid (take 1 k.forbids) k.words))
unfolding found
lays-one-forbid = (
  call free (1 ∷ 1 ∷ 1 ∷ []) (grid 1 1 0) (forbid 0 0 ∷ forbid 0 1 ∷ []) [],
  λ h. let z : ◌≡◌ {A = ℕ} 4 6 = ap (λ (o : Outcome). get_or o.memory.domains 0 0) h in omega arith,
)

-- the first choice, and skip the rest
pub makes-one-choice : Shut (λ k o. o ≡ found (call k.table k.weights k.grid k.forbids (take 1 k.words)))
unfolding found end_of lt of_bits sub div mul of_int eq
makes-one-choice = (
  call free (1 ∷ 1 ∷ 1 ∷ []) (grid 2 1 0) [] (4 ∷ 4 ∷ []),
  λ h. let z : ◌≡◌ {A = ℕ} 0 2 = ap (λ (o : Outcome). end_of o.told) h in omega arith,
)

-- count the words that are lent
pub counts-lent-words : Shut (λ k o. (end : ℕ) × (o.told ≡ ends end (length k.words)))
unfolding found used_of
counts-lent-words = (I, λ h. let z : ◌≡◌ {A = ℕ} 0 1 = ap used_of h.1 in omega arith)

-- any count that is the same for every call
pub counts-always : (count : ℕ) → Shut (λ k o. (end : ℕ) × (o.told ≡ ends end count))
unfolding found used_of
counts-always zero = (G, λ h. let z : ◌≡◌ {A = ℕ} 1 0 = ap used_of h.1 in omega arith)
counts-always (suc n) = (H, λ h. let z : ◌≡◌ {A = ℕ} 0 (suc n) = ap used_of h.1 in omega arith)
