-- `picture::put_picture_head` meets its contract: its parts in a row.
-- Assumes nothing.
use Rattle.text.proofs.PageLaws.{◌⨾◌}
use Rattle.picture.specs.Picture.{head_text, hatch_text, seams_text}
use Rattle.picture.proofs.put_picture_head.Goals as goal

pub returns : goal.returns
unfolding head_text hatch_text seams_text
returns c = c.put_size.ensures ⨾ c.put_text.ensures ⨾ c.put_line.ensures ⨾ c.put_foot.ensures
