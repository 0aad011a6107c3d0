-- `picture::put_foot` meets its contract: its parts in a row.
-- Assumes nothing.
use Rattle.text.proofs.PageLaws.{◌⨾◌}
use Rattle.picture.specs.Picture.{foot_text}
use Rattle.picture.proofs.put_foot.Goals as goal

pub returns : goal.returns
unfolding foot_text
returns c = rw (← c.beneath.ensures) (c.put_text.ensures ⨾ c.put_decimal.ensures ⨾ c.put_text-2.ensures ⨾ c.put_end.ensures ⨾ c.put_key.ensures ⨾ c.put_text-3.ensures)
