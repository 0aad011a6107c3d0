-- `collapse::inner::start::finish` meets its contract: each slice is zero, the domains only after a contradiction.
-- Assumes nothing.
use mathlib.Core.Bool.{cond}
use mathlib.Core.Path.{sym, ap, ◌∙◌}
use lib.ListN.{length, replicate}
use Rattle.collapse.proofs.StartLaws.{cleared-is}
use Rattle.collapse.proofs.inner.start.finish.Goals as goal

pub returns-then-contradiction : goal.returns-then-contradiction
returns-then-contradiction c =
    let D = c.args.domains.now in
    cleared-is _ _
    (c.zero_domains.ensures ∙ sym (ap (λ b. cond b (replicate (length D) 0) D) c.if-contradiction.true))
    c.zero_bytes.ensures c.zero_pending.ensures c.zero_floats.ensures c.zero_bytes-2.ensures

pub returns-else-contradiction : goal.returns-else-contradiction
returns-else-contradiction c =
    let D = c.args.domains.now in
    cleared-is _ _ (sym (ap (λ b. cond b (replicate (length D) 0) D) c.if-contradiction.false)) c.zero_bytes.ensures c.zero_pending.ensures
    c.zero_floats.ensures c.zero_bytes-2.ensures
