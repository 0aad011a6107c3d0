-- `stream::inner::sentences::put_reason` meets its contract: a sentence ends within its page.
-- Assumes nothing.
use Rattle.std.proofs.Common.{ap, ◌∙◌}
use Rattle.text.specs.Pages.{put}
use Rattle.stream.specs.Sentences.{reason_text}
use Rattle.stream.proofs.SentenceLaws.{said-within}
use Rattle.stream.proofs.inner.sentences.put_reason.Goals as goal

pub returns-clause-upper_bound : goal.returns-clause-upper_bound
returns-clause-upper_bound c =
    rw c.at.ensures (said-within _ _ _ _ (c.put_sentence.ensures.is ∙ ap (put (reason_text c.args.reason)) c.new-page.ensures.page))
