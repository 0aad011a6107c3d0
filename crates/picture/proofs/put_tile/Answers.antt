-- `picture::put_tile` meets its contract: its parts in a row.
-- Assumes nothing.
use Rattle.text.proofs.PageLaws.{◌⨾◌}
use Rattle.picture.specs.Picture.{tile_text}
use Rattle.picture.proofs.put_tile.Goals as goal

pub returns : goal.returns
unfolding tile_text
returns c = c.put_square.ensures ⨾ c.put_fill.ensures ⨾ c.put_place.ensures ⨾ c.put_told.ensures ⨾ c.put_text.ensures ⨾ c.put_mark.ensures ⨾ c.put_byte.ensures
