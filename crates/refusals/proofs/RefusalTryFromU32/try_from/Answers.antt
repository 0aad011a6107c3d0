-- The refusal of a number has that number, and what is none of the numbers is past them.
-- Assumes nothing.
use mathlib.Core.Path.{sym}
use Rattle.refusals.specs.Refusals.{number}
use Rattle.refusals.proofs.RefusalTryFromU32.try_from.Goals as goal

pub returns-in-1 : goal.returns-in-1
unfolding number
returns-in-1 c = sym c.in-1.is

pub returns-in-2 : goal.returns-in-2
unfolding number
returns-in-2 c = sym c.in-2.is

pub returns-in-3 : goal.returns-in-3
unfolding number
returns-in-3 c = sym c.in-3.is

pub returns-in-4 : goal.returns-in-4
unfolding number
returns-in-4 c = sym c.in-4.is

pub returns-in-5 : goal.returns-in-5
unfolding number
returns-in-5 c = sym c.in-5.is

pub returns-in-6 : goal.returns-in-6
unfolding number
returns-in-6 c = sym c.in-6.is

pub returns-in-7 : goal.returns-in-7
unfolding number
returns-in-7 c = sym c.in-7.is

pub returns-in-8 : goal.returns-in-8
unfolding number
returns-in-8 c = sym c.in-8.is

pub returns-in-9 : goal.returns-in-9
unfolding number
returns-in-9 c = sym c.in-9.is

pub returns-in-10 : goal.returns-in-10
unfolding number
returns-in-10 c = sym c.in-10.is

pub returns-in-11 : goal.returns-in-11
unfolding number
returns-in-11 c = sym c.in-11.is
