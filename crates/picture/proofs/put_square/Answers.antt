-- `picture::put_square` meets its contract: its parts in a row.
-- Assumes nothing.
use Rattle.text.proofs.PageLaws.{◌⨾◌}
use Rattle.picture.specs.Picture.{square_text}
use Rattle.picture.proofs.put_square.Goals as goal

pub returns : goal.returns
unfolding square_text
returns c = c.put_text.ensures ⨾ c.put_decimal.ensures ⨾ c.put_text-2.ensures ⨾ c.put_decimal-2.ensures ⨾ c.put_text-3.ensures
