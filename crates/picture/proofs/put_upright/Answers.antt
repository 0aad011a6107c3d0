-- `picture::put_upright` meets its contract: its parts in a row.
-- Assumes nothing.
use Rattle.text.proofs.PageLaws.{◌⨾◌}
use Rattle.picture.specs.Picture.{upright_text}
use Rattle.picture.proofs.put_upright.Goals as goal

pub returns : goal.returns
unfolding upright_text
returns c = c.put_text.ensures ⨾ c.put_decimal.ensures ⨾ c.put_byte.ensures ⨾ c.put_decimal-2.ensures ⨾ c.put_text-2.ensures ⨾ c.put_decimal-3.ensures ⨾ c.put_stroke.ensures
