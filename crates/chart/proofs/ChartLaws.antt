-- Laws of the rows of a chart. Assumes nothing.
use mathlib.Core.List.{List, ◌++◌}
use mathlib.Core.Path.{◌≡◌, sym, ap, ◌∙◌}
use Prim.Native.Nat.{ℕ, ◌+◌, ◌*◌}
use native.Mathlib.Numerals.{add-one}
use native.Mathlib.Omega.{arith}
use lib.ListN.{length, take, drop}
use lib.Seq.{take-append_seam, drop-append_seam, drop-drop}
use Rattle.chart.specs.Chart.{row_of}

-- the next chunk is the row of that number
pub chunk_row : (width y : ℕ) (l x rest : List ℕ) → drop (y * width) l ≡ x ++ rest → length x ≡ width → x ≡ row_of width l y
chunk_row width y l x rest e n = sym (ap (take width) e ∙ ap (λ (k : ℕ). take k (x ++ rest)) (sym n) ∙ take-append_seam x rest)

pub chunk_rest : (width y : ℕ) (l x rest : List ℕ) → drop (y * width) l ≡ x ++ rest → length x ≡ width → rest ≡ drop ((y + 1) * width) l
chunk_rest width y l x rest e n =
    let next : (y + 1) * width ≡ y * width + width = simp add-one (omega arith) in
    sym (ap (λ (k : ℕ). drop k l) next ∙ sym (drop-drop width (y * width) l) ∙ ap (drop width) e ∙ ap (λ (k : ℕ). drop k (x ++ rest)) (sym n) ∙ drop-append_seam x rest)
