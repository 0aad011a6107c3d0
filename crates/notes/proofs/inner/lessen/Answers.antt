-- `notes::inner::lessen` meets its contract, by whether there is weight.
-- Assumes nothing.
use native.Mathlib.Omega.{arith}
use Rattle.notes.proofs.BesideLaws.{lessened-some, lessened_none}
use Rattle.notes.proofs.inner.lessen.Goals as goal

pub offset_bounds-floats-cell : goal.offset_bounds-floats-cell
offset_bounds-floats-cell c = omega (arith, c.requires.2 c.if-weight-ne0.true)

pub bounds-floats-cell : goal.bounds-floats-cell
bounds-floats-cell c = c.requires.2 c.if-weight-ne0.true

pub offset_bounds-floats-cell-then-weight-ne0 : goal.offset_bounds-floats-cell-then-weight-ne0
offset_bounds-floats-cell-then-weight-ne0 c = omega (arith, c.requires.2 c.if-weight-ne0.true)

pub bounds-floats-cell-then-weight-ne0 : goal.bounds-floats-cell-then-weight-ne0
bounds-floats-cell-then-weight-ne0 c = c.requires.2 c.if-weight-ne0.true

pub returns-then-weight-ne0 : goal.returns-then-weight-ne0
returns-then-weight-ne0 c marks = lessened-some _ _ _ marks c.if-weight-ne0.true c.removed.ensures

pub returns-else-weight-ne0 : goal.returns-else-weight-ne0
returns-else-weight-ne0 c marks = lessened_none _ _ _ marks c.if-weight-ne0.false
