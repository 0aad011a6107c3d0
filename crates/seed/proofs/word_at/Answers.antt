-- `seed::word_at` meets its contract: its four bytes.
-- Assumes nothing.
use Rattle.std.proofs.Common.{◌∙◌}
use Rattle.seed.proofs.StripLaws.{word_of}
use Rattle.seed.proofs.word_at.Goals as goal

pub returns : goal.returns
returns c = c.from_le_bytes.ensures ∙ word_of _ _ _ _ _ _ c.byte_at-a.ensures c.byte_at-b.ensures c.byte_at-c.ensures c.byte_at-d.ensures
