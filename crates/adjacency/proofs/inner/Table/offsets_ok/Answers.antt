-- `adjacency::inner::Table::offsets_ok` meets its contract: each return is what the tests on the way decide.
-- Assumes nothing.
use mathlib.Core.Path.{sym, ◌∙◌}
use native.Mathlib.Omega.{arith}
use borrow.Author.Tests.{eq-eqb, ne_eqb}
use Rattle.std.proofs.lemmas.List.Sorted.{non_decreasing_from_is_sorted}
use Rattle.adjacency.specs.Checks.{offsets_ok}
use Rattle.adjacency.proofs.ListLaws.{sorted-rises}
use Rattle.adjacency.proofs.inner.Table.offsets_ok.Goals as goal
use Rattle.adjacency.proofs.inner.Table.offsets_ok.Goals.{then-self-eq0, else-self-eq0}

pub returns-then-is_sorted : goal.returns-then-is_sorted
unfolding offsets_ok
returns-then-is_sorted c =
    let long = rw (← c.self.view_is) at c.requires in
    elim c.if-self-eq0.branch [
      | then-self-eq0 w ↦
          let rises = sym (sorted-rises _ _ _ long (non_decreasing_from_is_sorted _ _ w.is_sorted.ensures.cases)) ∙ sym w.value-is ∙ c.if-is_sorted.true in
          rw (← c.self.view_is, eq-eqb _ _ w.if-self-eq0.true, rises)
      | else-self-eq0 w ↦ absurd (grind arith)
    ]

pub returns-else-is_sorted : goal.returns-else-is_sorted
unfolding offsets_ok
returns-else-is_sorted c =
    let long = rw (← c.self.view_is) at c.requires in
    elim c.if-self-eq0.branch [
      | then-self-eq0 w ↦
          let falls = sym (sorted-rises _ _ _ long (non_decreasing_from_is_sorted _ _ w.is_sorted.ensures.cases)) ∙ sym w.value-is ∙ c.if-is_sorted.false in
          rw (← c.self.view_is, eq-eqb _ _ w.if-self-eq0.true, falls, c.if-is_sorted.false)
      | else-self-eq0 w ↦ rw (← c.self.view_is, ne_eqb _ _ w.if-self-eq0.false, c.if-is_sorted.false)
    ]
