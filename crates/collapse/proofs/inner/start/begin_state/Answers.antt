-- `collapse::inner::start::begin_state` meets its contract: each slice is what the start says of it.
-- Assumes nothing.
use native.Mathlib.Nat.{mul-le-mul_right}
use native.Mathlib.Omega.{arith}
use Rattle.adjacency.specs.Tables.{table}
use Rattle.collapse.proofs.StartLaws.{begun-is}
use Rattle.collapse.proofs.inner.start.begin_state.Goals as goal

pub start_counts-requires : goal.start_counts-requires
start_counts-requires c =
    let (accepted, _, _) = c.requires.accepted in
    (accepted, omega (arith, c.requires.opened.measured.counts, mul-le-mul_right c.args.count c.requires.opened.some))

pub returns : goal.returns
returns c =
    let a = c.args in
    begun-is (table a.count a.offsets.now a.ids.now) a.weights.now a.cells c.full_word.result c.first_count.result a.domains.now
    c.full_word.ensures c.first_count.ensures c.requires.opened.measured.domains c.fill_domains.ensures
    (c.start_counts.ensures a.cells c.requires.opened.measured.counts) c.begin_floats.ensures _ (omega (arith, c.requires.opened.measured.marks)) c.begin_marks.ensures
