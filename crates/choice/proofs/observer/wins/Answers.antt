-- `choice::observer::wins` meets its contract: where there is none so far any cell wins, and else the better note.
-- Assumes nothing.
use mathlib.Core.Bool.{Bool, ◌||◌}
use mathlib.Core.Path.{◌≡◌, ap, ◌∙◌}
use Prim.Native.Nat.{ℕ}
use lib.Dec.{eqb}
use borrow.Author.Tests.{eq-eqb, ne_eqb}
use Rattle.notes.specs.declared.inner.Note.{Note}
use Rattle.choice.specs.Observer.{better_than}
use Rattle.choice.proofs.observer.wins.Goals as goal

-- the way past the test
compared : (best cells : ℕ) (note n m : Note) {t : Bool} → (best ≡ cells → ⊥) → n ≡ m → t ≡ better_than note n → t ≡ (eqb best cells || better_than note m)
compared best cells note n m h e q = rw (ne_eqb best cells h) (q ∙ ap (better_than note) e)

pub returns-then-best-cells : goal.returns-then-best-cells
returns-then-best-cells c = rw (eq-eqb _ _ c.if-best-cells.true)

pub returns : goal.returns
returns c = compared _ _ c.args.note _ _ c.if-best-cells.false c.of_cell.ensures c.better.ensures
