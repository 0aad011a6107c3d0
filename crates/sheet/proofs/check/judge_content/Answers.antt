-- `sheet::check::judge_content` meets its contract.
-- Assumes nothing.
use mathlib.Core.Path.{refl, sym, ap, ◌∙◌}
use Rattle.refusals.specs.Refusals.{number_of}
use Rattle.adjacency.specs.Tables.{Table}
use Rattle.adjacency.proofs.ListLaws.{listed}
use Rattle.sheet.proofs.CalledLaws.{content_tests-is}
use Rattle.sheet.proofs.check.judge_content.Goals as goal

pub returns-then-over_weight : goal.returns-then-over_weight
unfolding number_of
returns-then-over_weight c = sym (content_tests-is c.args.table.now _ c.args.grid c.args.forbids.now (sym c.over_weight.ensures ∙ c.if-over_weight.true) refl refl refl)

pub returns-then-bad_list : goal.returns-then-bad_list
unfolding number_of
returns-then-bad_list c = sym (content_tests-is c.args.table.now _ c.args.grid c.args.forbids.now (sym c.over_weight.ensures ∙ c.if-over_weight.false) (sym c.bad_list.ensures ∙ c.if-bad_list.true) refl refl)

pub disagrees-requires : goal.disagrees-requires
disagrees-requires c = listed _ c.requires (sym c.bad_list.ensures ∙ c.if-bad_list.false)

pub returns-then-disagrees : goal.returns-then-disagrees
unfolding number_of
returns-then-disagrees c = sym (content_tests-is c.args.table.now _ c.args.grid c.args.forbids.now (sym c.over_weight.ensures ∙ c.if-over_weight.false) (sym c.bad_list.ensures ∙ c.if-bad_list.false) (sym c.disagrees.ensures ∙ c.if-disagrees.true) refl)

pub returns : goal.returns
returns c =
    let count = ap (λ (t : Table). t.count) c.table.view_is in
    sym (content_tests-is c.args.table.now _ c.args.grid c.args.forbids.now (sym c.over_weight.ensures ∙ c.if-over_weight.false) (sym c.bad_list.ensures ∙ c.if-bad_list.false) (sym c.disagrees.ensures ∙ c.if-disagrees.false) (sym (rw count at (c.judge_all.ensures c.args.table.now.offsets c.args.table.now.ids))))
