-- `stream::inner::sentences::put_sentence` meets its contract: its parts in a row.
-- Assumes nothing.
use Rattle.text.proofs.PageLaws.{◌⨾◌}
use Rattle.stream.specs.Sentences.{reason_text, reasons}
use Rattle.stream.proofs.inner.sentences.put_sentence.Goals as goal

pub returns : goal.returns
unfolding reason_text reasons
returns c = c.put_text.ensures ⨾ c.put_line.ensures ⨾ c.put_byte.ensures
