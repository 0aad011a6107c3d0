-- `command::sentences::put_fault` meets its contract: its parts in a row.
-- Assumes nothing.
use Rattle.text.proofs.PageLaws.{◌⨾◌}
use Rattle.command.specs.Sentences.{fault_text, faults}
use Rattle.command.proofs.sentences.put_fault.Goals as goal

pub returns : goal.returns
unfolding fault_text faults
returns c = c.put_text.ensures ⨾ c.put_line.ensures ⨾ c.put_text-2.ensures
