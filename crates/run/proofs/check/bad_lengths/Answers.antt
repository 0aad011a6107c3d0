-- `run::check::bad_lengths` meets its contract: each way out is the first length that is not as published.
-- Assumes nothing.
use mathlib.Core.Path.{sym, ap, ◌∙◌}
use borrow.Author.Tests.{eq-eqb, ne_eqb}
use Rattle.adjacency.specs.Tables.{Table}
use Rattle.adjacency.specs.Checks.{weights_misfit}
use Rattle.course.specs.Called.{bad_lengths}
use Rattle.run.proofs.check.bad_lengths.Goals as goal

pub returns-then-weights-count : goal.returns-then-weights-count
unfolding bad_lengths weights_misfit
returns-then-weights-count c =
    let count = ap (λ (t : Table). t.count) c.table.view_is in rw (ne_eqb _ _ (λ e. c.if-weights-count.true (e ∙ sym count)))

pub returns-then-bad_offsets : goal.returns-then-bad_offsets
unfolding bad_lengths weights_misfit
returns-then-bad_offsets c =
    let count = ap (λ (t : Table). t.count) c.table.view_is in
    rw (eq-eqb _ _ (c.if-weights-count.false ∙ count), sym c.bad_offsets.ensures ∙ c.if-bad_offsets.true)

pub returns-then-noise-cells : goal.returns-then-noise-cells
unfolding bad_lengths weights_misfit
returns-then-noise-cells c =
    let count = ap (λ (t : Table). t.count) c.table.view_is in
    rw (eq-eqb _ _ (c.if-weights-count.false ∙ count), sym c.bad_offsets.ensures ∙ c.if-bad_offsets.false, ne_eqb _ _ c.if-noise-cells.true)

pub returns-then-bad_memory : goal.returns-then-bad_memory
unfolding bad_lengths weights_misfit
returns-then-bad_memory c =
    let count = ap (λ (t : Table). t.count) c.table.view_is in
    rw (
      eq-eqb _ _ (c.if-weights-count.false ∙ count),
      sym c.bad_offsets.ensures ∙ c.if-bad_offsets.false,
      eq-eqb _ _ c.if-noise-cells.false,
      rw count at (sym c.bad_memory.ensures ∙ c.if-bad_memory.true),
    )

pub returns : goal.returns
unfolding bad_lengths weights_misfit
returns c =
    let count = ap (λ (t : Table). t.count) c.table.view_is in
    rw (
      eq-eqb _ _ (c.if-weights-count.false ∙ count),
      sym c.bad_offsets.ensures ∙ c.if-bad_offsets.false,
      eq-eqb _ _ c.if-noise-cells.false,
      rw count at (sym c.bad_memory.ensures ∙ c.if-bad_memory.false),
    )
