-- `adjacency::list_refusal` meets its contract: each return gives the first refusal whose test holds.
-- Assumes nothing.
use mathlib.Core.Bool.{Bool, false, cond}
use mathlib.Core.Path.{◌≡◌, refl, sym, ◌∙◌}
use borrow.Author.Tests.{lt-ltb, le-ltb, le-leb, lt-leb}
use Rattle.directions.specs.Directions.{bad_direction}
use Rattle.refusals.specs.Refusals.{number_of}
use Rattle.adjacency.specs.Tables.{table}
use Rattle.adjacency.specs.Checks.{bad_count, offsets_misfit, bad_list, disagree}
use Rattle.adjacency.specs.Lookup.{bad_pattern, list_refusal}
use Rattle.adjacency.proofs.ListLaws.{listed}
use Rattle.adjacency.proofs.AcceptedLaws.{counted, offsets_long}
use Rattle.adjacency.proofs.LookupLaws.{list_refusal-is}
use Rattle.adjacency.proofs.list_refusal.Goals as goal
use Rattle.adjacency.proofs.list_refusal.Goals.{Else-bad_count, Else-bad_offsets, Else-bad_list, Else-disagrees}

-- ---- the tests that did not hold
count-good : (c : Else-bad_count) → bad_count c.args.count ≡ false
count-good c = sym c.bad_count.ensures ∙ c.if-bad_count.false

offsets-good : (c : Else-bad_offsets) → let a = c.args in offsets_misfit a.count a.offsets.now ≡ false
offsets-good c = sym c.bad_offsets.ensures ∙ c.if-bad_offsets.false

list-good : (c : Else-bad_list) → let a = c.args in bad_list (table a.count a.offsets.now a.ids.now) ≡ false
list-good c = sym c.bad_list.ensures ∙ c.if-bad_list.false

lists_agree : (c : Else-disagrees) → let a = c.args in disagree (table a.count a.offsets.now a.ids.now) ≡ false
lists_agree c = sym c.disagrees.ensures ∙ c.if-disagrees.false

-- once the table is good, the direction decides, and then the pattern
at-direction : (c : Else-disagrees) {direction pattern : Bool} → let a = c.args in
    bad_direction a.direction ≡ direction → bad_pattern a.count a.pattern ≡ pattern
    → list_refusal (table a.count a.offsets.now a.ids.now) a.pattern a.direction ≡ cond direction 11 (cond pattern 9 0)
at-direction c =
    list_refusal-is _ _ _ (count-good (goal.at.Else-disagrees c).Else-bad_count) (offsets-good (goal.at.Else-disagrees c).Else-bad_offsets) (list-good (goal.at.Else-disagrees c).Else-bad_list) (lists_agree c)

pub returns-then-bad_count : goal.returns-then-bad_count
unfolding number_of
returns-then-bad_count c = sym (list_refusal-is _ _ _ (sym c.bad_count.ensures ∙ c.if-bad_count.true) refl refl refl refl refl)

pub bad_offsets-requires : goal.bad_offsets-requires
bad_offsets-requires c = (counted _ (count-good (goal.at.bad_offsets-requires c).Else-bad_count)).1

pub returns-then-bad_offsets : goal.returns-then-bad_offsets
unfolding number_of
returns-then-bad_offsets c = sym (list_refusal-is _ _ _ (count-good (goal.at.returns-then-bad_offsets c).Else-bad_count) (sym c.bad_offsets.ensures ∙ c.if-bad_offsets.true) refl refl refl refl)

pub bad_list-requires : goal.bad_list-requires
bad_list-requires c = offsets_long _ _ (offsets-good (goal.at.bad_list-requires c).Else-bad_offsets)

pub returns-then-bad_list : goal.returns-then-bad_list
unfolding number_of
returns-then-bad_list c =
    sym (list_refusal-is _ _ _ (count-good (goal.at.returns-then-bad_list c).Else-bad_count) (offsets-good (goal.at.returns-then-bad_list c).Else-bad_offsets) (sym c.bad_list.ensures ∙ c.if-bad_list.true) refl refl refl)

pub disagrees-requires : goal.disagrees-requires
disagrees-requires c =
    listed _ (offsets_long _ _ (offsets-good (goal.at.disagrees-requires c).Else-bad_offsets)) (list-good (goal.at.disagrees-requires c).Else-bad_list)

pub returns-then-disagrees : goal.returns-then-disagrees
unfolding number_of
returns-then-disagrees c =
    sym (list_refusal-is _ _ _ (count-good (goal.at.returns-then-disagrees c).Else-bad_count) (offsets-good (goal.at.returns-then-disagrees c).Else-bad_offsets) (list-good (goal.at.returns-then-disagrees c).Else-bad_list) (sym c.disagrees.ensures ∙ c.if-disagrees.true) refl refl)

pub returns-then-direction-gt3 : goal.returns-then-direction-gt3
unfolding number_of bad_direction
returns-then-direction-gt3 c = sym (at-direction (goal.at.returns-then-direction-gt3 c).Else-disagrees (lt-ltb _ _ c.if-direction-gt3.true) refl)

pub returns-then-count-pattern : goal.returns-then-count-pattern
unfolding number_of bad_direction bad_pattern
returns-then-count-pattern c = sym (at-direction (goal.at.returns-then-count-pattern c).Else-disagrees (le-ltb _ _ c.if-direction-gt3.false) (le-leb _ _ c.if-count-pattern.true))

pub returns : goal.returns
unfolding number_of bad_direction bad_pattern
returns c = sym (at-direction (goal.at.returns c).Else-disagrees (le-ltb _ _ c.if-direction-gt3.false) (lt-leb _ _ c.if-count-pattern.false))
