-- `picture::put_mark` meets its contract: its parts in a row where more than one pattern remains.
-- Assumes nothing.
use borrow.Author.Tests.{le-ltb}
use Rattle.words.specs.Words.{how_many}
use Rattle.text.proofs.PageLaws.{◌⨾◌}
use Rattle.picture.specs.Picture.{mark_text}
use Rattle.picture.proofs.put_mark.Goals as goal

pub returns-then-left-ge2 : goal.returns-then-left-ge2
unfolding mark_text
returns-then-left-ge2 c = simp (le-ltb (how_many 64 c.args.word) 2 (rw c.count_ones-left.ensures at c.if-left-ge2.true)) (rw (← c.count_ones-left.ensures) (
    c.put_text.ensures ⨾ c.put_decimal.ensures ⨾ c.put_text-then-left-ge2.ensures ⨾ c.put_decimal-then-left-ge2.ensures ⨾ c.put_text-then-left-ge2-2.ensures
    ⨾ c.put_decimal-then-left-ge2-2.ensures ⨾ c.put_text-then-left-ge2-3.ensures
    ))
