-- The contracts of the public calls have one outcome: two answers that meet one are equal. Nothing lent is written.
-- Follows docs/RULES.md, "Refusals".
-- Assumes nothing.
use mathlib.Core.List.{List}
use mathlib.Core.Path.{◌≡◌, sym, ◌∙◌}
use Prim.Native.Nat.{ℕ}
use Rattle.std.specs.Prelude.{Result}
use Rattle.refusals.specs.declared.Refusal.{Refusal}
use Rattle.refusals.specs.Refusals.{number_of}
use Rattle.adjacency.specs.Tables.{Table}
use Rattle.adjacency.specs.Checks.{table_refusal}
use Rattle.adjacency.specs.Lookup.{list_refusal, list_answer}
use Rattle.refusals.proofs.RefusalLaws.{number_of-injective}

module _ (t : Table) where
  pub check-table-unique : (weights : List ℕ) (v w : Result (Unit {0}) Refusal) → number_of v ≡ table_refusal t weights → number_of w ≡ table_refusal t weights → v ≡ w
  check-table-unique weights v w a b = number_of-injective v w (a ∙ sym b)

  pub list-refusal-unique : (p d : ℕ) (v w : Result (Unit {0}) Refusal) → number_of v ≡ list_refusal t p d → number_of w ≡ list_refusal t p d → v ≡ w
  list-refusal-unique p d v w a b = number_of-injective v w (a ∙ sym b)

  -- two parts with the same entries; which part of the ids it is, its place in memory, is not told apart
  pub list-unique : (p d : ℕ) (a b : List ℕ) → a ≡ list_answer t p d → b ≡ list_answer t p d → a ≡ b
  list-unique p d a b e f = e ∙ sym f
