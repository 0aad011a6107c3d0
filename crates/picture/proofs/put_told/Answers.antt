-- `picture::put_told` meets its contract: its parts in a row where one pattern remains.
-- Assumes nothing.
use mathlib.Core.Path.{sym, ◌∙◌}
use borrow.Author.Tests.{eq-eqb, ne_eqb}
use Rattle.words.specs.Words.{how_many}
use Rattle.text.proofs.PageLaws.{◌⨾◌}
use Rattle.picture.specs.Picture.{told_text}
use Rattle.picture.proofs.put_told.Goals as goal

pub returns-then-left-eq1 : goal.returns-then-left-eq1
unfolding told_text
returns-then-left-eq1 c =
    let one = sym c.count_ones-left.ensures ∙ c.if-left-eq1.true in
    simp (ne_eqb c.args.word 0 c.if-word-eq0.false, eq-eqb (how_many 64 c.args.word) 1 one)
    (rw (← c.next_pattern-p.ensures) (c.put_text-then-left-eq1.ensures ⨾ c.put_decimal.ensures ⨾ c.put_label.ensures))
