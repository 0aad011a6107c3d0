-- `command::arguments::number_in` meets its contract. The invariant: what is left, read after the number so far, is the whole.
-- Assumes nothing.
use mathlib.Core.Path.{◌∙◌}
use Rattle.command.proofs.ArgumentLaws.{read_more, read-stops, read-end, number_read}
use Rattle.command.proofs.arguments.number_in.Goals as goal

pub loop-byte-preserved : goal.loop-byte-preserved
loop-byte-preserved c = read_more _ _ _ _ c.loop-byte-test.true c.in_ok-value.ensures c.loop-byte.invariant

pub returns-in_err-value : goal.returns-in_err-value
returns-in_err-value c =
    c.from_residual.ensures ∙ number_read _ _ c.if-is_empty.ensures (read-stops _ _ _ c.loop-byte-test.true c.in_err-value.ensures c.loop-byte.invariant)

pub returns : goal.returns
returns c = number_read _ _ c.if-is_empty.ensures (read-end _ _ _ c.loop-byte-test.false c.loop-byte.invariant)
