-- What a call returns, its answer as a number, and what it leaves in the slices that it was lent. Follows docs/RULES.md, "Refusals".
-- Assumes nothing.
use Rattle.std.specs.Prelude.{Bool, true, false, List, [], ◌∷◌, ℕ, eqb, length}
use Rattle.refusals.specs.Refusals.{Asked, refused, answer}
use Rattle.layout.specs.Lending.{Lent}
use Rattle.course.specs.Called.{Memory, Outcome}
use Rattle.sheet.specs.declared.Measures.{Measures}
use Rattle.sheet.specs.Called.{ReadOutcome, WriteOutcome}
use Rattle.sheet.specs.Result.{ResultOutcome}
use Rattle.ocean_c.specs.Coded.{coded, settled_coded, bytes_coded, accepted_coded}
use Rattle.starting.specs.Propagate as propagation

-- ---- propagation

pub record Settled : Type 0 where
  pub code : ℕ
  pub domains : List ℕ
  pub counts : List ℕ
  pub pending : List ℕ

abbrev pub settled : ℕ → List ℕ → List ℕ → List ℕ → Settled
settled code domains counts pending = record { code = code; domains = domains; counts = counts; pending = pending }

unfoldable pub settled_of : propagation.Outcome → Settled
unfolding settled_coded
settled_of o = settled (settled_coded o.told) o.domains o.counts o.pending

-- ---- a run

pub record Returned : Type 0 where
  pub code : ℕ
  pub memory : Memory

abbrev pub returned : ℕ → Memory → Returned
returned code memory = record { code = code; memory = memory }

unfoldable pub returned_of : Outcome → Returned
unfolding coded
returned_of o = returned (coded o.told) o.memory

-- ---- a run whose result is written

pub record ResultReturned : Type 0 where
  pub run : Returned
  pub out : List ℕ

abbrev pub result_returned : ℕ → Memory → List ℕ → ResultReturned
result_returned code memory out = record { run = returned code memory; out = out }

unfoldable pub result_returned_of : ResultOutcome → ResultReturned
unfolding coded
result_returned_of o = result_returned (coded o.run.told) o.run.memory o.out

-- ---- a sheet's sizes

pub record Sized : Type 0 where
  pub code : ℕ
  pub measures : List ℕ

abbrev pub sized : ℕ → List ℕ → Sized
sized code measures = record { code = code; measures = measures }

-- patterns, ids, width, height, mode, forbids
unfoldable pub measures_of : Measures → List ℕ
measures_of m = m.count ∷ m.ids ∷ m.width ∷ m.height ∷ m.mode ∷ m.forbids ∷ []

-- in the lent numbers where those are six, and 5 otherwise
unfoldable pub sized_in : Bool → Measures → List ℕ → Sized
unfolding measures_of
sized_in true m l = sized 0 (measures_of m)
sized_in false m l = sized 5 l

unfoldable pub sized_of : Asked Measures → List ℕ → Sized
unfolding sized_in
sized_of (refused n) l = sized n l
sized_of (answer m) l = sized_in (eqb (length l) 6) m l

-- ---- a sheet that is read

pub record ReadReturned : Type 0 where
  pub code : ℕ
  pub lent : Lent

abbrev pub read_returned : ℕ → Lent → ReadReturned
read_returned code lent = record { code = code; lent = lent }

unfoldable pub read_returned_of : ReadOutcome → ReadReturned
unfolding accepted_coded
read_returned_of o = read_returned (accepted_coded o.told) o.lent

-- ---- a sheet that is written

pub record WriteReturned : Type 0 where
  pub code : ℕ
  pub out : List ℕ

abbrev pub write_returned : ℕ → List ℕ → WriteReturned
write_returned code out = record { code = code; out = out }

unfoldable pub write_returned_of : WriteOutcome → WriteReturned
unfolding bytes_coded
write_returned_of o = write_returned (bytes_coded o.told) o.out
