-- `command::arguments::digit_more` meets its contract: by what the byte is.
-- Assumes nothing.
use mathlib.Core.Path.{◌∙◌}
use Rattle.command.proofs.ArgumentLaws.{digit-not, digit-over, digit-sum}
use Rattle.command.proofs.arguments.digit_more.Goals as goal

pub returns-then-not-is_ascii_digit : goal.returns-then-not-is_ascii_digit
returns-then-not-is_ascii_digit c = digit-not _ _ c.if-not-is_ascii_digit.ensures.cases

pub returns-in_err-checked_mul : goal.returns-in_err-checked_mul
returns-in_err-checked_mul c =
    let (low, high) = c.if-not-is_ascii_digit.ensures.cases in
    c.from_residual.ensures ∙ digit-over _ _ low high c.in_err-checked_mul.ensures

pub returns : goal.returns
returns c =
    let (low, high) = c.if-not-is_ascii_digit.ensures.cases in
    digit-sum _ _ low high _ c.in_ok-checked_mul.ensures.1 c.from.ensures c.checked_add.ensures
