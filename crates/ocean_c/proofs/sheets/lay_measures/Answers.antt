-- `ocean_c::sheets::lay_measures` meets its contract: six numbers are written to a slice of six.
-- Assumes nothing.
use native.Mathlib.Omega.{arith}
use lib.ListN.{length-set}
use Rattle.ocean_c.proofs.ReturnedLaws.{measures-laid}
use Rattle.ocean_c.proofs.sheets.lay_measures.Goals as goal

pub bounds-measures-4 : goal.bounds-measures-4
bounds-measures-4 c = simp (length-set, c.requires) (omega arith)

pub bounds-measures-5 : goal.bounds-measures-5
bounds-measures-5 c = simp (length-set, c.requires) (omega arith)

pub returns : goal.returns
returns c = measures-laid c.args.m c.args.measures.now c.requires
