-- `adjacency::check_table` meets its contract: each return gives the first refusal whose test holds.
-- Assumes nothing.
use mathlib.Core.Bool.{Bool, true, false, ◌||◌, cond}
use mathlib.Core.Path.{◌≡◌, refl, sym, ◌∙◌}
use borrow.Author.Tests.{eq-eqb, ne_eqb}
use Rattle.refusals.specs.Refusals.{number_of}
use Rattle.adjacency.specs.Tables.{table}
use Rattle.adjacency.specs.Checks.{bad_count, weights_misfit, offsets_misfit, over_weight, bad_list, disagree, table_refusal}
use Rattle.adjacency.proofs.ListLaws.{listed}
use Rattle.adjacency.proofs.AcceptedLaws.{table_refusal-is, counted, offsets_long}
use Rattle.adjacency.proofs.check_table.Goals as goal
use Rattle.adjacency.proofs.check_table.Goals.{then-weights-count-via-then-weights-count, then-weights-count-via-else-weights-count+then-bad_offsets, Else-bad_count, Else-bad_offsets, Else-over_weight, Else-bad_list}

-- ---- the tests that did not hold
count-good : (c : Else-bad_count) → bad_count c.args.count ≡ false
count-good c = sym c.bad_count.ensures ∙ c.if-bad_count.false

offsets-good : (c : Else-bad_offsets) → let a = c.args in offsets_misfit a.count a.offsets.now ≡ false
offsets-good c = sym c.bad_offsets.ensures ∙ c.if-bad_offsets.false

lengths_good : (c : Else-bad_offsets) → let a = c.args in (weights_misfit a.count a.weights.now || offsets_misfit a.count a.offsets.now) ≡ false
unfolding weights_misfit
lengths_good c = rw (eq-eqb _ _ c.if-weights-count.false) (offsets-good c)

weights-good : (c : Else-over_weight) → over_weight c.args.weights.now ≡ false
weights-good c = sym c.over_weight.ensures ∙ c.if-over_weight.false

list-good : (c : Else-bad_list) → let a = c.args in bad_list (table a.count a.offsets.now a.ids.now) ≡ false
list-good c = sym c.bad_list.ensures ∙ c.if-bad_list.false

-- once the lists are good, agreement decides
at-agreement : (c : Else-bad_list) {agreement : Bool} → let a = c.args in
    let t = table a.count a.offsets.now a.ids.now in
    disagree t ≡ agreement → table_refusal t a.weights.now ≡ cond agreement 7 0
at-agreement c =
    table_refusal-is _ _ (count-good (goal.at.Else-bad_list c).Else-bad_count) (lengths_good (goal.at.Else-bad_list c).Else-bad_offsets) (weights-good (goal.at.Else-bad_list c).Else-over_weight) (list-good c)

pub returns-then-bad_count : goal.returns-then-bad_count
unfolding number_of
returns-then-bad_count c = sym (table_refusal-is _ _ (sym c.bad_count.ensures ∙ c.if-bad_count.true) refl refl refl refl)

pub bad_offsets-requires : goal.bad_offsets-requires
bad_offsets-requires c = (counted _ (count-good (goal.at.bad_offsets-requires c).Else-bad_count)).1

pub returns-then-weights-count : goal.returns-then-weights-count
unfolding number_of weights_misfit
returns-then-weights-count c =
    let a = c.args in
    let bad : (weights_misfit a.count a.weights.now || offsets_misfit a.count a.offsets.now) ≡ true =
    elim c.then-weights-count.branch [
      | then-weights-count-via-then-weights-count w ↦ rw (ne_eqb _ _ w.if-weights-count.true) refl
      | then-weights-count-via-else-weights-count+then-bad_offsets w ↦ rw (eq-eqb _ _ w.if-weights-count.false) (sym w.bad_offsets.ensures ∙ w.if-bad_offsets.true)
    ]
    in
    sym (table_refusal-is _ _ (count-good (goal.at.returns-then-weights-count c).Else-bad_count) bad refl refl refl)

pub returns-then-over_weight : goal.returns-then-over_weight
unfolding number_of
returns-then-over_weight c =
    sym (table_refusal-is _ _ (count-good (goal.at.returns-then-over_weight c).Else-bad_count) (lengths_good (goal.at.returns-then-over_weight c).Else-bad_offsets) (sym c.over_weight.ensures ∙ c.if-over_weight.true) refl refl)

pub bad_list-requires : goal.bad_list-requires
bad_list-requires c = offsets_long _ _ (offsets-good (goal.at.bad_list-requires c).Else-bad_offsets)

pub returns-then-bad_list : goal.returns-then-bad_list
unfolding number_of
returns-then-bad_list c =
    sym (table_refusal-is _ _ (count-good (goal.at.returns-then-bad_list c).Else-bad_count) (lengths_good (goal.at.returns-then-bad_list c).Else-bad_offsets) (weights-good (goal.at.returns-then-bad_list c).Else-over_weight) (sym c.bad_list.ensures ∙ c.if-bad_list.true) refl)

pub disagrees-requires : goal.disagrees-requires
disagrees-requires c =
    listed _ (offsets_long _ _ (offsets-good (goal.at.disagrees-requires c).Else-bad_offsets)) (list-good (goal.at.disagrees-requires c).Else-bad_list)

pub returns-then-disagrees : goal.returns-then-disagrees
unfolding number_of
returns-then-disagrees c = sym (at-agreement (goal.at.returns-then-disagrees c).Else-bad_list (sym c.disagrees.ensures ∙ c.if-disagrees.true))

pub returns : goal.returns
unfolding number_of
returns c = sym (at-agreement (goal.at.returns c).Else-bad_list (sym c.disagrees.ensures ∙ c.if-disagrees.false))
