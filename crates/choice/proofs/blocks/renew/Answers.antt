-- `choice::blocks::renew` meets its contract: a mark that is not 0 is what a look gives, and else there is a look.
-- Assumes nothing.
use mathlib.Core.Path.{refl}
use Rattle.choice.proofs.WalkLaws.{renew_kept}
use Rattle.choice.proofs.blocks.renew.Goals as goal

pub returns-then-mark-ne0 : goal.returns-then-mark-ne0
returns-then-mark-ne0 c =
    -- start
    renew_kept _ _ _ _ c.requires.lengths.0.marked c.requires.lengths.1 c.requires.fresh refl c.if-mark-ne0.true

pub returns : goal.returns
returns c = rw c.look-seen.ensures (refl, refl)
