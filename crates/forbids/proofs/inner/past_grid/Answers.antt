-- `forbids::inner::past_grid` meets its contract: a cell is past the grid where its row is, or where there is no column.
-- Assumes nothing.
use mathlib.Core.Path.{sym, ap, ◌∙◌}
use Prim.Native.Nat.{ℕ, ◌*◌, ◌/◌}
use native.Mathlib.Decide.{dec_lt}
use native.Mathlib.Nat.{le-div_iff_mul-le}
use native.Mathlib.Omega.{arith}
use borrow.Author.Tests.{eq-eqb, le-leb, lt-leb}
use Rattle.grid.proofs.GridLaws.{cell-past, cell-inside}
use Rattle.forbids.proofs.inner.past_grid.Goals as goal

pub returns-then-grid-eq0 : goal.returns-then-grid-eq0
returns-then-grid-eq0 c =
    let g = c.args.grid in
    eq-eqb _ _ c.if-grid-eq0.true ∙ sym (cell-past g c.args.cell (omega (arith, ap (λ (w : ℕ). g.height * w) c.if-grid-eq0.true)))

pub returns-else-grid-eq0 : goal.returns-else-grid-eq0
returns-else-grid-eq0 c =
    let g = c.args.grid in
    let cell = c.args.cell in
    let row = le-div_iff_mul-le {k = g.width} {x = g.height} {y = cell} (omega (arith, c.if-grid-eq0.false)) in
    elim (dec_lt (cell / g.width) g.height) [
      | yes h ↦ lt-leb _ _ h ∙ sym (cell-inside g cell (elim (dec_lt cell (g.height * g.width)) [ yes k ↦ k | no k ↦ absurd (omega (arith, h, row.1 (omega (arith, k)))) ]))
      | no h ↦ le-leb g.height (cell / g.width) (omega (arith, h)) ∙ sym (cell-past g cell (row.0 (omega (arith, h))))
    ]
