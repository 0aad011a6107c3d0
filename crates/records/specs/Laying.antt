-- What writing leaves in a lent slice. Assumes nothing.
use Rattle.std.specs.Prelude.{List, ◌++◌, ℕ, ◌+◌, length, drop}
use Rattle.std.proofs.lemmas.List.Edits.{sets}

-- entries at the front, and what stood past the last of them
unfoldable pub over : List ℕ → List ℕ → List ℕ
over new old = new ++ drop (length new) old

-- a slice that is written from front to back, and the place of the next entry
pub record Pen : Type 0 where
  pub slice : List ℕ
  pub place : ℕ

abbrev pub pen : List ℕ → ℕ → Pen
pen slice place = record { slice = slice; place = place }

-- entries written one after the other
unfoldable pub laid : List ℕ → Pen → Pen
laid new p = pen (sets p.slice p.place new) (p.place + length new)
