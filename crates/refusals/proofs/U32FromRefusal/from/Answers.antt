-- The number of a refusal is that of its definition.
-- Assumes nothing.
use mathlib.Core.Path.{sym, ap}
use Rattle.refusals.specs.Refusals.{number}
use Rattle.refusals.proofs.U32FromRefusal.from.Goals as goal

pub returns-in-BadSize : goal.returns-in-BadSize
unfolding number
returns-in-BadSize c = ap number (sym c.in-BadSize.is)

pub returns-in-BadWrap : goal.returns-in-BadWrap
unfolding number
returns-in-BadWrap c = ap number (sym c.in-BadWrap.is)

pub returns-in-BadCount : goal.returns-in-BadCount
unfolding number
returns-in-BadCount c = ap number (sym c.in-BadCount.is)

pub returns-in-BadWeights : goal.returns-in-BadWeights
unfolding number
returns-in-BadWeights c = ap number (sym c.in-BadWeights.is)

pub returns-in-BadLength : goal.returns-in-BadLength
unfolding number
returns-in-BadLength c = ap number (sym c.in-BadLength.is)

pub returns-in-BadList : goal.returns-in-BadList
unfolding number
returns-in-BadList c = ap number (sym c.in-BadList.is)

pub returns-in-Disagree : goal.returns-in-Disagree
unfolding number
returns-in-Disagree c = ap number (sym c.in-Disagree.is)

pub returns-in-BadCell : goal.returns-in-BadCell
unfolding number
returns-in-BadCell c = ap number (sym c.in-BadCell.is)

pub returns-in-BadPattern : goal.returns-in-BadPattern
unfolding number
returns-in-BadPattern c = ap number (sym c.in-BadPattern.is)

pub returns-in-BadSheet : goal.returns-in-BadSheet
unfolding number
returns-in-BadSheet c = ap number (sym c.in-BadSheet.is)

pub returns-in-BadDirection : goal.returns-in-BadDirection
unfolding number
returns-in-BadDirection c = ap number (sym c.in-BadDirection.is)
