-- `choice::observer::step` meets its contract: a cell that is decided, that would not win or whose note does not count changes nothing, and another one is the best.
-- Assumes nothing.
use mathlib.Core.Path.{sym, ◌∙◌}
use borrow.Author.Tests.{leb-true}
use Rattle.choice.proofs.BestLaws.{step-decided, step_beaten, step-passed, step-won}
use Rattle.choice.proofs.observer.step.Goals as goal

pub returns-then-not-several : goal.returns-then-not-several
returns-then-not-several c =
    -- start
    step-decided _ c.requires c.several.ensures c.if-not-several.true

pub returns-then-not-wins : goal.returns-then-not-wins
returns-then-not-wins c =
    -- start
    step_beaten _ c.requires c.of_cell-note.ensures c.wins.ensures c.if-not-wins.true

pub valid-requires : goal.valid-requires
valid-requires c =
    leb-true _ _ (sym c.several.ensures ∙ c.if-not-several.false)

pub returns-then-not-valid : goal.returns-then-not-valid
returns-then-not-valid c =
    -- start
    step-passed _ c.requires c.of_cell-note.ensures c.valid.ensures c.if-not-valid.true

pub returns : goal.returns
returns c =
    -- start
    step-won _ c.requires c.of_cell-note.ensures c.wins.ensures c.valid.ensures c.if-not-wins.false c.if-not-valid.false
