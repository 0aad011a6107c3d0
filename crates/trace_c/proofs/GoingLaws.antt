-- Laws of the steps that are told one by one: each leaves the slices as the next must find them. Assumes nothing.
use mathlib.Core.Bool.{Bool, true, false, not}
use mathlib.Core.List.{[]}
use mathlib.Core.Path.{◌≡◌, refl, sym}
use Prim.Native.Nat.{◌<◌}
use native.Mathlib.Omega.{arith}
use lib.ListN.{length}
use Rattle.std.specs.Prelude.{Ok}
use Rattle.refusals.specs.Refusals.{first_of}
use Rattle.forbids.specs.declared.Forbid.{Forbid}
use Rattle.course.specs.Run.{Given}
use Rattle.course.specs.Called.{Memory, room_of}
use Rattle.forbids.specs.Forbids.{forbid_tests}
use Rattle.run.specs.Stages.{state_in, begun_as, begun_by, stage_of, Standing, beginning, lay_at}
use Rattle.refusals.proofs.RefusalLaws.{number_of-accepted}
use Rattle.run.proofs.StageLaws.{begun-standing, lay_standing}
use Rattle.trace_c.specs.Going.{Going}

-- the beginning, without forbids
pub begun_going : (i : Given) (m m' : Memory) → begun_by i.table.count (Ok tt) m' ≡ beginning 0 0 i m → room_of m' ≡ room_of m → Standing i m'
unfolding forbid_tests first_of begun_as begun_by
begun_going i m m' e same = begun-standing i 0 [] m (Ok tt) m' e number_of-accepted same

-- a forbid; b is whether it emptied a cell
pub laid_going : (i : Given) (f : Forbid) (m : Memory) → Standing i m → (b : Bool) (m' : Memory) → stage_of i.table.count b m' ≡ lay_at i f (state_in i.table.count m)
    → f.cell < length m.domains → f.pattern < i.table.count → room_of m' ≡ room_of m → Going i (not b) m'
laid_going i f m S b m' e hc hp same t = lay_standing i f m S b m' e (omega (arith, hc, S.measured.domains)) hp same (kept b t)
  where
    kept : (x : Bool) → not x ≡ true → x ≡ false
    kept true t = sym t
    kept false t = refl

-- where some steps lead from slices m₀: the run stands there, and the lengths are kept
pub record Led (i : Given) (m₀ m : Memory) : Type 0 where
  pub standing : Standing i m
  pub room : room_of m ≡ room_of m₀
