-- `layout::inner::writing::lay_each_list` meets its contract.
-- Assumes nothing.
use mathlib.Core.List.{List, ◌∷◌}
use mathlib.Core.Path.{◌≡◌, sym, ap, ◌∙◌}
use Prim.Native.Nat.{ℕ, ◌+◌, ◌*◌, ◌/◌, ◌%◌, ◌≤◌, ◌<◌}
use native.Mathlib.Omega.{arith}
use lib.ListN.{length, length-append}
use Rattle.records.specs.Laying.{pen, laid}
use Rattle.adjacency.specs.Tables.{Table, list_at}
use Rattle.layout.specs.Sheet.{list_bytes}
use Rattle.layout.specs.Tables.{lists_of}
use Rattle.records.proofs.LayingLaws.{laid-turn, laid-room, laid_none}
use Rattle.adjacency.proofs.ListLaws.{list_at_of}
use Rattle.adjacency.proofs.AcceptedLaws.{list-short}
use Rattle.layout.proofs.WritingLaws.{bytes_from, bytes_from-first, bytes_from_next, bytes_from_none}
use Rattle.layout.proofs.inner.writing.lay_each_list.Goals as goal

pub loop-k-init : goal.loop-k-init
loop-k-init c = ap (λ (l : List ℕ). laid l (pen c.args.out.now c.args.at)) (bytes_from-first c.args.table.now)

pub overflow_mul-k-end : goal.overflow_mul-k-end
overflow_mul-k-end c = let count = ap (λ (t : Table). t.count) c.table.view_is in omega (arith, c.requires.0.few)

pub list_of-list-requires : goal.list_of-list-requires
list_of-list-requires c = let count = ap (λ (t : Table). t.count) c.table.view_is in (c.requires.0.listed.laid, omega (arith, c.requires.0.few), omega arith)

pub lay_list-place-requires : goal.lay_list-place-requires
lay_list-place-requires c =
    let t = c.args.table.now in
    let loop = c.loop-k in
    let k = loop.k in
    let count = ap (λ (t : Table). t.count) c.table.view_is in
    let inside : k < 4 * t.count = rw (← count) c.loop-k-test.true in
    let same : c.list_of-list.result.now ≡ list_at t k = c.list_of-list.ensures ∙ sym (list_at_of t k) in
    let short : length (list_at t k) ≤ 64 = rw (list_at_of t k) (omega (arith, list-short t c.requires.0 (k / 4) (k % 4) (omega arith) (omega arith), c.requires.0.few)) in
    let room = laid-room (bytes_from t k) (list_bytes (lists_of t)) loop.out c.args.out.now loop.place c.args.at loop.invariant in
    rw same
    (short, omega (arith, room.0, room.1, ap length (bytes_from_next t k inside), length-append (length (list_at t k) ∷ list_at t k) (bytes_from t (k + 1)), c.requires.1))

pub loop-k-preserved : goal.loop-k-preserved
loop-k-preserved c =
    let t = c.args.table.now in
    let loop = c.loop-k in
    let k = loop.k in
    let count = ap (λ (t : Table). t.count) c.table.view_is in
    let inside : k < 4 * t.count = rw (← count) c.loop-k-test.true in
    let same : c.list_of-list.result.now ≡ list_at t k = c.list_of-list.ensures ∙ sym (list_at_of t k) in
    laid-turn (bytes_from t k) (length (list_at t k) ∷ list_at t k) (bytes_from t (k + 1)) loop.out loop.place (bytes_from_next t k inside)
    (rw same at c.lay_list-place.ensures) loop.invariant

pub shape_of-out : goal.shape_of-out
shape_of-out c =
    let t = c.args.table.now in
    let loop = c.loop-k in
    (laid-room (bytes_from t loop.k) (list_bytes (lists_of t)) loop.out c.args.out.now loop.place c.args.at loop.invariant).0

pub returns : goal.returns
returns c =
    let t = c.args.table.now in
    let count = ap (λ (t : Table). t.count) c.table.view_is in
    let loop = c.loop-k in
    sym (laid_none (pen loop.out loop.place)) ∙ sym (ap (λ (l : List ℕ). laid l (pen loop.out loop.place)) (bytes_from_none t loop.k (rw (← count) c.loop-k-test.false))) ∙ loop.invariant
