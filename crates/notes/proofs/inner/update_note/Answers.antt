-- `notes::inner::update_note` meets its contract: a note's count was a byte, or is at most 64.
-- Assumes nothing.
use mathlib.Core.Path.{ap}
use Prim.Native.Nat.{◌<◌}
use native.Mathlib.Omega.{arith}
use lib.ListN.{get_or}
use borrow.Author.Rules.{rules}
use Rattle.notes.specs.declared.inner.Note.{Note}
use Rattle.notes.proofs.BesideLaws.{proposed-byte, written-noted}
use Rattle.notes.proofs.inner.update_note.Goals as goal

pub write-requires : goal.write-requires
write-requires c = (
  proposed-byte _ _ _ _ c.proposed-new.ensures
      (let byte : get_or c.args.marks.now c.args.cell 0 < 256 = search rules in omega (arith, ap (λ (n : Note). n.count) c.of_cell-old.ensures))
      (omega arith),
  omega arith,
  omega arith,
)

pub returns : goal.returns
returns c =
    written-noted _ _ _ _ _ _ _ c.of_cell-old.ensures c.proposed-new.ensures c.write.ensures
