-- `starting::check::bad_lengths` meets its contract: each way out is the first length that is not as published.
-- Assumes nothing.
use mathlib.Core.Path.{sym, ap, ◌∙◌}
use Prim.Native.Nat.{ℕ, ◌*◌, ◌≤◌}
use native.Mathlib.Nat.{mul-le-mul_right}
use native.Mathlib.Omega.{arith}
use borrow.Author.Tests.{eq-eqb, ne_eqb}
use Rattle.adjacency.specs.Tables.{Table}
use Rattle.starting.specs.Propagate.{bad_lengths}
use Rattle.starting.proofs.check.bad_lengths.Goals as goal

-- cells times patterns are few
few : (cells count : ℕ) → cells ≤ 1024 → count ≤ 64 → cells * count ≤ 65536
few cells count h k = omega (arith, mul-le-mul_right count h)

pub returns-then-bad_offsets : goal.returns-then-bad_offsets
unfolding bad_lengths
returns-then-bad_offsets c = rw (sym c.bad_offsets.ensures ∙ c.if-bad_offsets.true)

pub returns-then-domains-cells : goal.returns-then-domains-cells
unfolding bad_lengths
returns-then-domains-cells c = rw (sym c.bad_offsets.ensures ∙ c.if-bad_offsets.false, ne_eqb _ _ c.if-domains-cells.true)

pub overflow_mul-cells : goal.overflow_mul-cells
overflow_mul-cells c =
    let count = ap (λ (t : Table). t.count) c.table.view_is in omega (arith, few c.args.cells c.table.inside.count c.requires.1 (omega arith))

pub overflow_mul-cells-2 : goal.overflow_mul-cells-2
overflow_mul-cells-2 c =
    let count = ap (λ (t : Table). t.count) c.table.view_is in omega (arith, few c.args.cells c.table.inside.count c.requires.1 (omega arith))

pub returns-then-counts-cells : goal.returns-then-counts-cells
unfolding bad_lengths
returns-then-counts-cells c =
    let count = ap (λ (t : Table). t.count) c.table.view_is in
    rw (sym c.bad_offsets.ensures ∙ c.if-bad_offsets.false, eq-eqb _ _ c.if-domains-cells.false, ← count, ne_eqb _ _ c.if-counts-cells.true)

pub returns : goal.returns
unfolding bad_lengths
returns c =
    let count = ap (λ (t : Table). t.count) c.table.view_is in
    rw (sym c.bad_offsets.ensures ∙ c.if-bad_offsets.false, eq-eqb _ _ c.if-domains-cells.false, ← count, eq-eqb _ _ c.if-counts-cells.false)
