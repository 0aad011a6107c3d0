-- Laws of the support counts of full domains: those of the first cell, and that every cell has the same.
-- Follows docs/RULES.md, "Propagation". Assumes nothing.
use mathlib.Core.List.{List}
use mathlib.Core.Path.{◌≡◌, sym, ap, ap₂, ◌∙◌}
use Prim.Native.Nat.{ℕ, ◌+◌, ◌*◌, ◌/◌, ◌%◌, ◌≤◌, ◌<◌}
use native.Mathlib.Nat.{zero-add, mod-lt, div-add-mod'}
use native.Mathlib.Omega.{arith}
use lib.Arith.{digits_mod}
use lib.ListN.{length, get_or}
use lib.Seq.{ext_get_or}
use Rattle.directions.specs.Directions.{opposite}
use Rattle.adjacency.specs.Tables.{Table, list_of}
use Rattle.adjacency.specs.Accepted.{Accepted}
use Rattle.consistency.specs.Start.{start_counts}
use Rattle.directions.proofs.DirectionLaws.{opposite-below}
use Rattle.adjacency.proofs.AcceptedLaws.{list-short}
use Rattle.consistency.proofs.StartLaws.{length-tabulated, get_or-tabulated}

-- count k of the first cell: of pattern k / 4 from direction k % 4
abbrev pub first_count : Table → ℕ → ℕ
first_count t k = length (list_of t (k / 4) (opposite (k % 4)))

pub first_short : (t : Table) → Accepted t → (k : ℕ) → k < 4 * t.count → first_count t k < 256
first_short t A k h = omega (arith, A.few, list-short t A (k / 4) (opposite (k % 4)) (omega arith) (opposite-below (k % 4) (omega arith)))

-- ---- from cell to cell

module _ (P k : ℕ) (some : 1 ≤ P) where
  cell-count : k % (4 * P) ≡ 4 * (k / 4 % P) + k % 4
  cell-count =
      let q = k / 4 in
      let low : q % P < P = mod-lt q some in
      let whole : k ≡ q / P * (4 * P) + (4 * (q % P) + k % 4) = omega (arith, div-add-mod' q P) in
      ap (λ (x : ℕ). x % (4 * P)) whole ∙ digits_mod (q / P) (omega arith)

-- the first cell's counts at every cell are those of full domains
pub counts_start : (t : Table) (cells : ℕ) (first all : List ℕ) → Accepted t → length all ≡ cells * t.count * 4
    → ((k : ℕ) → k < 4 * t.count → get_or first k 0 ≡ first_count t k) → ((k : ℕ) → k < length all → get_or all k 0 ≡ get_or first (k % (4 * t.count)) 0)
    → all ≡ start_counts t cells
unfolding start_counts
counts_start t cells first all A long one each =
    ext_get_or 0 all (start_counts t cells) (long ∙ sym (length-tabulated 0 (cells * t.count * 4) _))
    (λ k h.
    let place = cell-count t.count k A.some in
    let q : k % (4 * t.count) / 4 ≡ k / 4 % t.count = omega (arith, place) in
    let d : k % (4 * t.count) % 4 ≡ k % 4 = omega (arith, place) in
    each k h ∙ one (k % (4 * t.count)) (mod-lt k (omega (arith, A.some))) ∙ ap₂ (λ (q d : ℕ). length (list_of t q (opposite d))) q d
    ∙ sym (get_or-tabulated 0 (cells * t.count * 4) k _ (omega arith) ∙ ap (λ (i : ℕ). length (list_of t (i / 4 % t.count) (opposite (i % 4)))) (zero-add k)))
