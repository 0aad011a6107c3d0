-- `layout::inner::writing::lay_forbids` meets its contract.
-- Assumes nothing.
use mathlib.Core.Path.{sym}
use Prim.Native.Nat.{◌*◌, ◌/◌}
use native.Mathlib.Omega.{arith}
use lib.ListN.{length}
use Rattle.records.proofs.RecordLaws.{length-head_of, laid-record}
use Rattle.records.proofs.LayingLaws.{pen-length, pen-place}
use Rattle.layout.proofs.WritingLaws.{stored-length}
use Rattle.layout.proofs.inner.writing.lay_forbids.Goals as goal

pub lay_each_forbid-requires : goal.lay_each_forbid-requires
lay_each_forbid-requires c =
    let fs = c.args.forbids.now in
    let e = c.lay_head-place.ensures in
    (c.requires.0, omega (arith, pen-length _ _ _ e, pen-place _ _ _ e, length-head_of 4 (6 * (length fs / 3)), stored-length fs))

pub returns : goal.returns
returns c = laid-record 4 _ _ _ _ (sym (stored-length c.args.forbids.now)) c.lay_head-place.ensures c.lay_each_forbid.ensures
