-- `run::numbers::lay_numbers` meets its contract. The invariant: the forbids before place i are laid, and the rest laid from here is all of them laid
-- from the start.
-- Assumes nothing.
use native.Mathlib.Numerals.{add-one}
use Rattle.course.specs.Called.{Memory, memory}
use Rattle.run.proofs.StandingLaws.{room_same}
use Rattle.run.proofs.LayingLaws.{laying_start, laying_ready, laying_again, laying_over, laying_end}
use Rattle.run.proofs.numbers.lay_numbers.Goals as goal
use Rattle.run.proofs.numbers.lay_numbers.Goals.{At-loop-i}

-- the lent slices at the loop's head
abbrev held : At-loop-i → Memory
held l = memory l.loop-i.domains l.loop-i.counts l.loop-i.pending l.loop-i.floats l.loop-i.marks

pub loop-i-init : goal.loop-i-init
loop-i-init c = laying_start _ _ _ c.requires.0 c.requires.1

pub lay_one-requires : goal.lay_one-requires
lay_one-requires c = laying_ready c.loop-i.invariant c.loop-i-test.true

pub returns-then-lay_one : goal.returns-then-lay_one
returns-then-lay_one c = laying_over c.loop-i.invariant c.loop-i-test.true _ _ c.lay_one.ensures c.if-lay_one.true

pub loop-i-preserved : goal.loop-i-preserved
loop-i-preserved c =
    rw add-one
    (laying_again c.loop-i.invariant c.loop-i-test.true _ _ c.lay_one.ensures c.if-lay_one.false
    (room_same (held (goal.at.loop-i-preserved c).At-loop-i) (c.lay_one.auto.domains, (c.lay_one.auto.counts, (c.lay_one.auto.pending, (c.lay_one.auto.floats, (c.lay_one.auto.marks, tt {0})))))))

pub returns : goal.returns
returns c = laying_end c.loop-i.invariant c.loop-i-test.false
