-- `starting::check::bad_domains` meets its contract. The invariant: the domains from here on are within the count exactly where all are.
-- Assumes nothing.
use mathlib.Core.Bool.{not}
use mathlib.Core.Path.{refl, sym, ap, ◌∙◌}
use native.Mathlib.Omega.{arith}
use Rattle.starting.specs.Propagate.{bad_domains}
use Rattle.loops.proofs.TestLaws.{every-turn, every-stop, every-end}
use Rattle.starting.proofs.check.bad_domains.Goals as goal

pub loop-cell-init : goal.loop-cell-init
loop-cell-init c = (omega arith, refl)

pub returns-then-beyond_count : goal.returns-then-beyond_count
unfolding bad_domains
returns-then-beyond_count c =
    ap not (every-stop _ _ c.loop-cell-test.true refl (ap not (sym c.beyond_count.ensures ∙ c.if-beyond_count.true)) c.loop-cell.invariant.1)

pub loop-cell-preserved : goal.loop-cell-preserved
loop-cell-preserved c =
    (omega arith, every-turn _ _ c.loop-cell-test.true refl (ap not (sym c.beyond_count.ensures ∙ c.if-beyond_count.false)) c.loop-cell.invariant.1)

pub returns : goal.returns
unfolding bad_domains
returns c = ap not (every-end _ _ c.loop-cell-test.false c.loop-cell.invariant.1)
