-- `notes::inner::Note::lowered` meets its contract: each arm returns what the definition picks at the test that led there.
-- Assumes nothing.
use mathlib.Core.Path.{sym}
use Rattle.notes.proofs.NoteLaws.{lowered-less, lowered-kept}
use Rattle.notes.proofs.inner.Note.lowered.Goals as goal

pub returns-then-entropy-self : goal.returns-then-entropy-self
returns-then-entropy-self c = let a = c.args in sym (lowered-less a.self a.entropy a.count c.if-entropy-self.true)

pub returns-else-entropy-self : goal.returns-else-entropy-self
returns-else-entropy-self c = let a = c.args in sym (lowered-kept a.self a.entropy a.count c.if-entropy-self.false)
