-- `sheet::check::judge_scalars` meets its contract.
-- Assumes nothing.
use mathlib.Core.Path.{refl, sym, ◌∙◌}
use Rattle.refusals.specs.Refusals.{number_of}
use Rattle.sheet.proofs.CalledLaws.{scalar_tests-is}
use Rattle.sheet.proofs.check.judge_scalars.Goals as goal

pub returns-then-bad_count : goal.returns-then-bad_count
unfolding number_of
returns-then-bad_count c = sym (scalar_tests-is _ c.args.grid (sym c.bad_count.ensures ∙ c.if-bad_count.true) refl refl)

pub returns-then-bad_size : goal.returns-then-bad_size
unfolding number_of
returns-then-bad_size c = sym (scalar_tests-is _ c.args.grid (sym c.bad_count.ensures ∙ c.if-bad_count.false) (sym c.bad_size.ensures ∙ c.if-bad_size.true) refl)

pub returns-then-bad_wrap : goal.returns-then-bad_wrap
unfolding number_of
returns-then-bad_wrap c = sym (scalar_tests-is _ c.args.grid (sym c.bad_count.ensures ∙ c.if-bad_count.false) (sym c.bad_size.ensures ∙ c.if-bad_size.false) (sym c.bad_wrap.ensures ∙ c.if-bad_wrap.true))

pub returns : goal.returns
unfolding number_of
returns c = sym (scalar_tests-is _ c.args.grid (sym c.bad_count.ensures ∙ c.if-bad_count.false) (sym c.bad_size.ensures ∙ c.if-bad_size.false) (sym c.bad_wrap.ensures ∙ c.if-bad_wrap.false))
