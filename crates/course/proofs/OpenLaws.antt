-- Open cells, those with two patterns or more: a choice leaves fewer of them, for it decides one for good. Assumes nothing.
use mathlib.Core.List.{List}
use mathlib.Core.Path.{◌≡◌}
use Prim.Native.Nat.{ℕ, ◌-◌, ◌≤◌, ◌<◌, min}
use native.Mathlib.Omega.{arith}
use lib.ListN.{get_or}
use Rattle.loops.specs.Sums.{sum_to}
use Rattle.words.specs.Words.{how_many}
use Rattle.consistency.specs.Domains.{possible, Sub}
use Rattle.loops.proofs.SumLaws.{sum-le, sum_less, sum-most}
use Rattle.words.proofs.CountLaws.{many-sub, many-one}
use Rattle.consistency.proofs.DomainLaws.{sub-le}

-- 1 for an open cell and 0 for any other
abbrev pub is_open : ℕ → ℕ
is_open w = min 1 (how_many 64 w - 1)

-- how many of n cells are open
unfoldable pub open_cells : ℕ → List ℕ → ℕ
unfolding sum_to
open_cells n D = sum_to n (λ c. is_open (get_or D c 0))

pub open-most : (n : ℕ) (D : List ℕ) → open_cells n D ≤ n
unfolding open_cells
open-most n D = omega (arith, sum-most n 1 (λ c. is_open (get_or D c 0)) (λ c h. omega arith))

pub open-some : (n : ℕ) (D : List ℕ) (c : ℕ) → c < n → 2 ≤ how_many 64 (get_or D c 0) → 0 < open_cells n D
unfolding open_cells
open-some n D c h k = omega (arith, sum-le n (λ c. is_open (get_or D c 0)) c h)

-- fewer are open in a subset where an open cell has no pattern but one
pub open-falls : (n : ℕ) (D E : List ℕ) (c p : ℕ) → c < n → p < 64 → Sub E D → 2 ≤ how_many 64 (get_or D c 0)
    → ((q : ℕ) → possible E c q ≡ 1 → q ≡ p) → open_cells n E < open_cells n D
unfolding open_cells
open-falls n D E c p hc hp h k one =
    sum_less n (λ c. is_open (get_or E c 0)) (λ c. is_open (get_or D c 0)) c hc
    (λ m l. omega (arith, many-sub 64 (get_or E m 0) (get_or D m 0) (sub-le E D h m)))
    (omega (arith, many-one 64 (get_or E c 0) p hp one))
