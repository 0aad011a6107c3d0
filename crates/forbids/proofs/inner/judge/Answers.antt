-- `forbids::inner::judge` meets its contract: each return gives the first refusal whose test holds.
-- Assumes nothing.
use mathlib.Core.Path.{refl, sym, ◌∙◌}
use borrow.Author.Tests.{le-leb, lt-leb}
use Rattle.refusals.specs.Refusals.{number_of}
use Rattle.adjacency.specs.Lookup.{bad_pattern}
use Rattle.forbids.proofs.ForbidLaws.{place_tests-is}
use Rattle.forbids.proofs.inner.judge.Goals as goal

pub returns-then-past_grid : goal.returns-then-past_grid
unfolding number_of
returns-then-past_grid c = sym (place_tests-is _ _ _ _ (sym c.past_grid.ensures ∙ c.if-past_grid.true) refl)

pub returns-then-count-pattern : goal.returns-then-count-pattern
unfolding bad_pattern number_of
returns-then-count-pattern c = sym (place_tests-is _ _ _ _ (sym c.past_grid.ensures ∙ c.if-past_grid.false) (le-leb _ _ c.if-count-pattern.true))

pub returns : goal.returns
unfolding bad_pattern number_of
returns c = sym (place_tests-is _ _ _ _ (sym c.past_grid.ensures ∙ c.if-past_grid.false) (lt-leb _ _ c.if-count-pattern.false))
