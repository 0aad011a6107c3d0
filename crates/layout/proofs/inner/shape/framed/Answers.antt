-- `layout::inner::shape::framed` meets its contract.
-- Assumes nothing.
use mathlib.Core.Path.{refl, sym, ◌∙◌}
use Rattle.records.proofs.RecordLaws.{begins-framed}
use Rattle.layout.proofs.ShapeLaws.{framed_is}
use Rattle.layout.proofs.inner.shape.framed.Goals as goal

pub returns-then-not-begins : goal.returns-then-not-begins
returns-then-not-begins c = sym (framed_is _ refl refl refl refl (sym c.begins.ensures ∙ c.if-not-begins.true) refl refl refl refl)

pub rest_of-lists-requires : goal.rest_of-lists-requires
rest_of-lists-requires c = begins-framed 1 _ (sym c.begins.ensures ∙ c.if-not-begins.false)

pub returns-then-not-begins-2 : goal.returns-then-not-begins-2
returns-then-not-begins-2 c = sym (framed_is _ c.rest_of-lists.ensures refl refl refl (sym c.begins.ensures ∙ c.if-not-begins.false) (sym c.begins-2.ensures ∙ c.if-not-begins-2.true) refl refl refl)

pub rest_of-grid-requires : goal.rest_of-grid-requires
rest_of-grid-requires c = begins-framed 2 _ (sym c.begins-2.ensures ∙ c.if-not-begins-2.false)

pub returns-then-not-begins-3 : goal.returns-then-not-begins-3
returns-then-not-begins-3 c = sym (framed_is _ c.rest_of-lists.ensures c.rest_of-grid.ensures refl refl (sym c.begins.ensures ∙ c.if-not-begins.false) (sym c.begins-2.ensures ∙ c.if-not-begins-2.false) (sym c.begins-3.ensures ∙ c.if-not-begins-3.true) refl refl)

pub rest_of-forbids-requires : goal.rest_of-forbids-requires
rest_of-forbids-requires c = begins-framed 3 _ (sym c.begins-3.ensures ∙ c.if-not-begins-3.false)

pub returns-then-not-begins-4 : goal.returns-then-not-begins-4
returns-then-not-begins-4 c = sym (framed_is _ c.rest_of-lists.ensures c.rest_of-grid.ensures c.rest_of-forbids.ensures refl (sym c.begins.ensures ∙ c.if-not-begins.false) (sym c.begins-2.ensures ∙ c.if-not-begins-2.false) (sym c.begins-3.ensures ∙ c.if-not-begins-3.false) (sym c.begins-4.ensures ∙ c.if-not-begins-4.true) refl)

pub rest_of-requires : goal.rest_of-requires
rest_of-requires c = begins-framed 4 _ (sym c.begins-4.ensures ∙ c.if-not-begins-4.false)

pub returns : goal.returns
returns c = c.is_empty.ensures ∙ sym (framed_is _ c.rest_of-lists.ensures c.rest_of-grid.ensures c.rest_of-forbids.ensures c.rest_of.ensures (sym c.begins.ensures ∙ c.if-not-begins.false) (sym c.begins-2.ensures ∙ c.if-not-begins-2.false) (sym c.begins-3.ensures ∙ c.if-not-begins-3.false) (sym c.begins-4.ensures ∙ c.if-not-begins-4.false) refl)
