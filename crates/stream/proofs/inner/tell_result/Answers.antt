-- `stream::inner::tell_result` meets its contract: the number, then the record.
-- Assumes nothing.
use mathlib.Core.Path.{sym}
use native.Mathlib.Omega.{arith}
use lib.ListN.{take}
use lib.Seq.{length-take-le}
use Rattle.records.specs.Numbers.{u16}
use Rattle.records.proofs.NumberLaws.{length-u16}
use Rattle.records.proofs.LayingLaws.{pen-length, pen-place, laid_then}
use Rattle.stream.proofs.inner.tell_result.Goals as goal

pub slice_bounds-lay_bytes-end : goal.slice_bounds-lay_bytes-end
slice_bounds-lay_bytes-end c = sym (length-take-le _ _ c.requires.0)

pub lay_bytes-requires : goal.lay_bytes-requires
lay_bytes-requires c =
    let a = c.args in
    let e = c.lay_u16-at.ensures in
    omega
    (arith, pen-place (u16 0) a.out.now 0 e, pen-length (u16 0) a.out.now 0 e, length-u16 0, length-take-le a.size a.res.now c.requires.0, c.requires.1, c.requires.2)

pub returns : goal.returns
returns c =
    let a = c.args in
    let out' = c.lay_u16-at.new.out in
    let at = c.lay_u16-at.result in
    let e = c.lay_u16-at.ensures in
    let f = c.lay_bytes.ensures in record {
      result_after = laid_then (u16 0) (take a.size a.res.now) a.out.now 0 e f;
      upper_bound = omega
          (arith, pen-place (u16 0) a.out.now 0 e, length-u16 0, pen-place (take a.size a.res.now) out' at f, length-take-le a.size a.res.now c.requires.0, c.requires.1);
    }
