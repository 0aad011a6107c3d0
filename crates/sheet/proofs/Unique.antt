-- No second outcome fits: an answer is known by what it tells, so a call's contract leaves one answer and one content of every slice.
-- Assumes nothing.
use mathlib.Core.List.{List}
use mathlib.Core.Path.{◌≡◌, sym, ap, ◌∙◌}
use Prim.Native.Nat.{ℕ}
use Rattle.adjacency.specs.Tables.{Table}
use Rattle.grid.specs.Grid.{Grid}
use Rattle.std.specs.Prelude.{Result, Ok, Err}
use Rattle.refusals.specs.declared.Refusal.{Refusal}
use Rattle.sheet.specs.declared.Measures.{Measures}
use Rattle.layout.specs.Lending.{Lent}
use Rattle.sheet.specs.Called.{sizes_told, sizes_asked, ReadOutcome, read_outcome, read_called, written_told, WriteOutcome, write_outcome, write_called}
use Rattle.refusals.proofs.RefusalLaws.{number-injective}

pub sizes_told-injective : (a b : Result Measures Refusal) → sizes_told a ≡ sizes_told b → a ≡ b
unfolding sizes_told
sizes_told-injective (Ok m) (Ok n) e = ap Ok (cc)
sizes_told-injective (Ok m) (Err s) e = cc
sizes_told-injective (Err r) (Ok n) e = cc
sizes_told-injective (Err r) (Err s) e = ap Err (number-injective r s (cc))

pub written_told-injective : (a b : Result ℕ Refusal) → written_told a ≡ written_told b → a ≡ b
unfolding written_told
written_told-injective (Ok m) (Ok n) e = ap Ok (cc)
written_told-injective (Ok m) (Err s) e = cc
written_told-injective (Err r) (Ok n) e = cc
written_told-injective (Err r) (Err s) e = ap Err (number-injective r s (cc))

pub sizes-unique : (b : List ℕ) (x y : Result Measures Refusal) → sizes_told x ≡ sizes_asked b → sizes_told y ≡ sizes_asked b → x ≡ y
sizes-unique b x y e f = sizes_told-injective x y (e ∙ sym f)

pub read-unique : (b : List ℕ) (l : Lent) (x y : Result Measures Refusal) (l₁ l₂ : Lent) → read_outcome (sizes_told x) l₁ ≡ read_called b l → read_outcome (sizes_told y) l₂ ≡ read_called b l
    → (x ≡ y) × (l₁ ≡ l₂)
read-unique b l x y l₁ l₂ e f =
    (sizes_told-injective x y (ap (λ (o : ReadOutcome). o.told) (e ∙ sym f)), ap (λ (o : ReadOutcome). o.lent) (e ∙ sym f))

pub write-unique : (t : Table) (weights : List ℕ) (g : Grid) (forbids out : List ℕ) (x y : Result ℕ Refusal) (out₁ out₂ : List ℕ)
    → write_outcome (written_told x) out₁ ≡ write_called t weights g forbids out → write_outcome (written_told y) out₂ ≡ write_called t weights g forbids out
    → (x ≡ y) × (out₁ ≡ out₂)
write-unique t weights g forbids out x y out₁ out₂ e f =
    (written_told-injective x y (ap (λ (o : WriteOutcome). o.told) (e ∙ sym f)), ap (λ (o : WriteOutcome). o.out) (e ∙ sym f))
