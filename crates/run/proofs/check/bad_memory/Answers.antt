-- `run::check::bad_memory` meets its contract: each way out is the first length that is not as published.
-- Assumes nothing.
use native.Mathlib.Nat.{mul-le-mul_right}
use native.Mathlib.Omega.{arith}
use borrow.Author.Tests.{eq-eqb, ne_eqb}
use Rattle.course.specs.Called.{bad_memory}
use Rattle.run.proofs.check.bad_memory.Goals as goal

pub returns-then-domains-cells : goal.returns-then-domains-cells
unfolding bad_memory
returns-then-domains-cells c = rw (ne_eqb _ _ c.if-domains-cells.true)

pub overflow_mul-cells : goal.overflow_mul-cells
overflow_mul-cells c = omega (arith, mul-le-mul_right c.args.count c.requires.1, c.requires.0)

pub overflow_mul-cells-2 : goal.overflow_mul-cells-2
overflow_mul-cells-2 c = omega (arith, mul-le-mul_right c.args.count c.requires.1, c.requires.0)

pub returns-then-counts-cells : goal.returns-then-counts-cells
unfolding bad_memory
returns-then-counts-cells c = rw (eq-eqb _ _ c.if-domains-cells.false, ne_eqb _ _ c.if-counts-cells.true)

pub returns-then-pending-cells : goal.returns-then-pending-cells
unfolding bad_memory
returns-then-pending-cells c = rw (eq-eqb _ _ c.if-domains-cells.false, eq-eqb _ _ c.if-counts-cells.false, ne_eqb _ _ c.if-pending-cells.true)

pub returns-then-floats-cells : goal.returns-then-floats-cells
unfolding bad_memory
returns-then-floats-cells c =
    rw (eq-eqb _ _ c.if-domains-cells.false, eq-eqb _ _ c.if-counts-cells.false, eq-eqb _ _ c.if-pending-cells.false, ne_eqb _ _ c.if-floats-cells.true)

pub returns : goal.returns
unfolding bad_memory
returns c =
    rw (eq-eqb _ _ c.if-domains-cells.false, eq-eqb _ _ c.if-counts-cells.false, eq-eqb _ _ c.if-pending-cells.false, eq-eqb _ _ c.if-floats-cells.false)
