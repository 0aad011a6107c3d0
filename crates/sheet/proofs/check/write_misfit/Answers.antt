-- `sheet::check::write_misfit` meets its contract.
-- Assumes nothing.
use mathlib.Core.Bool.{not}
use mathlib.Core.Path.{refl, sym, ap, ◌∙◌}
use lib.Dec.{ltb}
use lib.ListN.{length}
use borrow.Author.Tests.{eq-eqb, ne_eqb, lt-ltb, le-ltb}
use Rattle.adjacency.specs.Checks.{weights_misfit}
use Rattle.adjacency.specs.Tables.{Table}
use Rattle.sheet.proofs.CalledLaws.{write_misfit-is, room-short, room-left}
use Rattle.sheet.proofs.check.write_misfit.Goals as goal

pub returns-then-weights-table : goal.returns-then-weights-table
unfolding weights_misfit
returns-then-weights-table c =
    let count = ap (λ (t : Table). t.count) c.table.view_is in
    sym (write_misfit-is c.args.table.now c.args.weights.now c.args.forbids.now c.args.room (ap not (ne_eqb _ _ (λ k. c.if-weights-table.true (k ∙ sym count)))) refl refl refl)

pub returns-then-bad_offsets : goal.returns-then-bad_offsets
unfolding weights_misfit
returns-then-bad_offsets c =
    let count = ap (λ (t : Table). t.count) c.table.view_is in
    sym (write_misfit-is c.args.table.now c.args.weights.now c.args.forbids.now c.args.room (ap not (eq-eqb _ _ (c.if-weights-table.false ∙ count))) (sym c.bad_offsets.ensures ∙ c.if-bad_offsets.true) refl refl)

pub returns-then-records-gt4096 : goal.returns-then-records-gt4096
unfolding weights_misfit
returns-then-records-gt4096 c =
    let count = ap (λ (t : Table). t.count) c.table.view_is in
    let e = c.records_in-records.ensures in
    sym (write_misfit-is c.args.table.now c.args.weights.now c.args.forbids.now c.args.room (ap not (eq-eqb _ _ (c.if-weights-table.false ∙ count))) (sym c.bad_offsets.ensures ∙ c.if-bad_offsets.false) (ap (ltb 4096) (sym e) ∙ lt-ltb _ _ c.if-records-gt4096.true) refl)

pub returns-then-room-fixed : goal.returns-then-room-fixed
unfolding weights_misfit
returns-then-room-fixed c =
    let count = ap (λ (t : Table). t.count) c.table.view_is in
    let e = c.records_in-records.ensures in
    sym (write_misfit-is c.args.table.now c.args.weights.now c.args.forbids.now c.args.room (ap not (eq-eqb _ _ (c.if-weights-table.false ∙ count))) (sym c.bad_offsets.ensures ∙ c.if-bad_offsets.false) (ap (ltb 4096) (sym e) ∙ le-ltb _ _ c.if-records-gt4096.false) (room-short _ _ _ _ e (rw (← count) c.if-room-fixed.true)))

pub returns : goal.returns
unfolding weights_misfit
returns c =
    let count = ap (λ (t : Table). t.count) c.table.view_is in
    let ids = ap (λ (t : Table). length t.ids) c.table.view_is in
    let e = c.records_in-records.ensures in
    let left = rw (count, ids) at (room-left _ (length c.table.inside.ids.now) _ _ e c.if-room-fixed.false) in
    rw (count, ids)
    (sym
    (write_misfit-is c.args.table.now c.args.weights.now c.args.forbids.now c.args.room (ap not (eq-eqb _ _ (c.if-weights-table.false ∙ count))) (sym c.bad_offsets.ensures ∙ c.if-bad_offsets.false) (ap (ltb 4096) (sym e) ∙ le-ltb _ _ c.if-records-gt4096.false) left))
