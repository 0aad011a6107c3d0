-- `command::sentences::put_refusal` meets its contract: its parts in a row.
-- Assumes nothing.
use Rattle.text.proofs.PageLaws.{◌⨾◌}
use Rattle.command.specs.Sentences.{refusal_text, sentences}
use Rattle.command.proofs.sentences.put_refusal.Goals as goal

pub returns : goal.returns
unfolding refusal_text sentences
returns c = c.put_text.ensures ⨾ c.put_decimal.ensures ⨾ c.put_byte.ensures ⨾ c.put_line.ensures ⨾ c.put_place.ensures ⨾ c.put_text-2.ensures
