-- `run::inner::conclude` meets its contract: the answer tells the contradiction or the end of the turns, and the domains are zero after a contradiction.
-- Assumes nothing.
use mathlib.Core.Path.{◌≡◌, refl, ◌∙◌}
use denote.Enum.Bare.{sameb}
use lib.Dec.{eqb}
use lib.ListN.{length}
use Rattle.adjacency.specs.Tables.{table}
use Rattle.grid.specs.Grid.{grid}
use Rattle.collapse.specs.declared.Ending.{Ending}
use Rattle.collapse.specs.declared.Ending.TheVariants.{Decided, Undecided, Paused, Contradiction}
use Rattle.collapse.specs.contracts.Ending.{the_type}
use Rattle.collapse.specs.Endings.{end_number}
use Rattle.course.specs.Run.{Given, given}
use Rattle.course.specs.Called.{Memory, memory, room}
use Rattle.run.specs.Stages.{stage_of}
use Rattle.run.proofs.StandingLaws.{standing-lent, standing_ground, standing-roomy, standing-marked, room_same, turns_concluded, conclude-contradicted}
use Rattle.run.proofs.inner.conclude.Goals as goal
use Rattle.run.proofs.inner.conclude.Goals.{Start}

-- an end is a contradiction where its number is 3
is-contradiction : (e : Ending) → sameb the_type e Contradiction ≡ eqb (end_number e) 3
is-contradiction Decided = refl
is-contradiction Undecided = refl
is-contradiction Paused = refl
is-contradiction Contradiction = refl

-- what the call is given, and the lent slices at entry
abbrev input : Start → Given
input s = given (table s.args.count s.args.offsets.now s.args.ids.now) s.args.weights.now (grid s.args.width s.args.height s.args.mode) s.args.noise.now

abbrev entry : Start → Memory
entry s = memory s.args.domains.now s.args.counts.now s.args.pending.now s.args.floats.now s.args.marks.now

pub collapse-stop-requires : goal.collapse-stop-requires
collapse-stop-requires c =
    let S = c.requires c.if-empty.false in
    record { lent = standing-lent S; ground = standing_ground S; weighed = (S.laid.lawful.weighed, standing-roomy S, c.weighted_mask.ensures); marks_len = standing-marked S; laid = S.laid }

pub returns-then-empty : goal.returns-then-empty
unfolding stage_of
returns-then-empty c =
    let s = (goal.at.returns-then-empty c).Start in
    let l = c.finish.new in
    rw c.if-empty.true
    (conclude-contradicted (input s) c.args.words.now (entry s) {m' = memory l.domains l.counts l.pending l.floats l.marks} c.finish.ensures)

pub returns : goal.returns
unfolding stage_of
returns c =
    let finished = c.finish-2 in
    let k = c.collapse-stop.new in
    let l = finished.new in
    rw c.if-empty.false
    (turns_concluded (c.requires c.if-empty.false) c.args.words.now c.collapse-stop.result k.domains c.collapse-stop.ensures
    {m' = memory l.domains l.counts l.pending l.floats l.marks} {r = room (length k.domains) (length k.counts) (length k.pending) (length k.floats) (length k.marks)} (c.eq-contradiction.ensures ∙ is-contradiction c.collapse-stop.result.end) finished.ensures
    (room_same (entry (goal.at.returns c).Start) (c.collapse-stop.auto.domains, (c.collapse-stop.auto.counts, (c.collapse-stop.auto.pending, (c.collapse-stop.auto.floats, (c.collapse-stop.auto.marks, tt {0})))))))
