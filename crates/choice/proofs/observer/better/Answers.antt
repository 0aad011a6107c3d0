-- `choice::observer::better` meets its contract: each return is what the tests on the way say.
-- Assumes nothing.
use Rattle.order.specs.Order.{beats}
use Rattle.choice.proofs.observer.better.Goals as goal

pub returns-then-note-other : goal.returns-then-note-other
unfolding beats
returns-then-note-other c = rw c.if-note-other.true

pub returns-then-note-other-2 : goal.returns-then-note-other-2
unfolding beats
returns-then-note-other-2 c = rw (c.if-note-other.false, c.if-note-other-2.true)

pub returns : goal.returns
unfolding beats
returns c = rw (c.if-note-other.false, c.if-note-other-2.false)
