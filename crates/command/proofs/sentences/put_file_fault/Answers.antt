-- `command::sentences::put_file_fault` meets its contract: its parts in a row.
-- Assumes nothing.
use Rattle.text.proofs.PageLaws.{◌⨾◌}
use Rattle.command.specs.Sentences.{file_text, file_faults}
use Rattle.command.proofs.sentences.put_file_fault.Goals as goal

pub returns : goal.returns
unfolding file_text file_faults
returns c = c.put_text.ensures ⨾ c.put_name.ensures ⨾ c.put_text-2.ensures ⨾ c.put_line.ensures ⨾ c.put_text-3.ensures
