-- `command::places::put_forbid` meets its contract: its parts in a row.
-- Assumes nothing.
use Rattle.text.proofs.PageLaws.{◌⨾◌}
use Rattle.command.specs.Places.{forbid_text}
use Rattle.command.proofs.places.put_forbid.Goals as goal

pub returns : goal.returns
unfolding forbid_text
returns c = c.put_text.ensures ⨾ c.put_decimal.ensures ⨾ c.put_text-2.ensures ⨾ c.put_decimal-2.ensures
