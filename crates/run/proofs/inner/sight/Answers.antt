-- `run::inner::sight` meets its contract: with the marks of blocks forgotten every block is looked at, and the run stands where it stood.
-- Assumes nothing.
use mathlib.Core.List.{[]}
use mathlib.Core.Path.{refl, ◌∙◌}
use native.Mathlib.Omega.{arith}
use Rattle.adjacency.specs.Tables.{table}
use Rattle.grid.specs.Grid.{grid}
use Rattle.course.specs.Run.{Given, given}
use Rattle.course.specs.Called.{Memory, memory}
use Rattle.run.specs.Stages.{state_in}
use Rattle.collapse.proofs.StepLaws.{observed-sight}
use Rattle.run.proofs.StandingLaws.{standing_ground, standing-roomy, standing-marked, standing-numbers, standing-marks}
use Rattle.collapse.proofs.WatchLaws.{observed-cut, forgotten-cut, forgotten-found, forgotten-observed}
use Rattle.run.proofs.inner.sight.Goals as goal
use Rattle.run.proofs.inner.sight.Goals.{Start}

-- what the run is given, and the lent slices at entry
abbrev input : Start → Given
input s = given (table s.args.count s.args.offsets.now s.args.ids.now) s.args.weights.now (grid s.args.width s.args.height s.args.mode) s.args.noise.now

abbrev entry : Start → Memory
entry s = memory s.args.domains.now s.args.counts.now s.args.pending.now s.args.floats.now s.args.marks.now

pub forget-requires : goal.forget-requires
forget-requires c = omega (arith, standing-marked c.requires)

pub observe-requires : goal.observe-requires
observe-requires c =
    let a = c.args in
    let S = c.requires in
    let forgot = c.forget in record { lengths = record { noises = (standing-roomy S).heard; words = refl; values = (standing-roomy S).valued; marked = forgot.auto.marks ∙ standing-marked S }; numbers = standing-numbers S; fresh = forgotten-found a.noise.now c.weighted_mask.result a.domains.now a.floats.now a.marks.now (standing-marked S) forgot.ensures }

pub returns : goal.returns
returns c =
    let a = c.args in
    let S = c.requires in
    let saw = c.observe in
    let masked = c.weighted_mask in
    let forgot = c.forget in (
      observed-sight (input (goal.at.returns c).Start) [] 0 (state_in a.count (entry (goal.at.returns c).Start))
          (forgotten-observed masked.result a.noise.now a.domains.now a.floats.now a.marks.now (standing-marked S) forgot.ensures saw.ensures.0)
          (standing_ground S).all masked.ensures,
      standing-marks S _ (saw.auto.marks ∙ forgot.auto.marks)
          (observed-cut a.noise.now masked.result a.domains.now a.floats.now _ (forgot.auto.marks ∙ standing-marked S) saw.ensures.1
          ∙ forgotten-cut a.domains.now a.marks.now (standing-marked S) forgot.ensures),
    )
