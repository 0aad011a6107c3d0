-- `picture::put_size` meets its contract: its parts in a row.
-- Assumes nothing.
use Rattle.text.proofs.PageLaws.{◌⨾◌}
use Rattle.picture.specs.Picture.{size_text}
use Rattle.picture.proofs.put_size.Goals as goal

pub returns : goal.returns
unfolding size_text
returns c = rw (← c.breadth.ensures, ← c.beneath.ensures) (c.put_text.ensures ⨾ c.put_decimal.ensures ⨾ c.put_byte.ensures ⨾ c.put_decimal-2.ensures ⨾ c.put_text-2.ensures)
