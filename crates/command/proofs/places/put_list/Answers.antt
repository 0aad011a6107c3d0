-- `command::places::put_list` meets its contract: its parts in a row.
-- Assumes nothing.
use Rattle.text.proofs.PageLaws.{◌⨾◌}
use Rattle.command.specs.Places.{list_text, ways}
use Rattle.command.proofs.places.put_list.Goals as goal

pub returns : goal.returns
unfolding list_text ways
returns c = c.put_text.ensures ⨾ c.put_line.ensures ⨾ c.put_text-2.ensures ⨾ c.put_decimal.ensures
