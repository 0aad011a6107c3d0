-- `starting::check::check` meets its contract: each return gives the first refusal whose test holds.
-- Assumes nothing.
use mathlib.Core.Bool.{false}
use mathlib.Core.Path.{◌≡◌, refl, sym, ◌∙◌}
use Prim.Native.Nat.{◌+◌, ◌*◌}
use lib.ListN.{length}
use Rattle.refusals.specs.Refusals.{number_of}
use Rattle.adjacency.specs.Tables.{table}
use Rattle.adjacency.specs.Checks.{bad_count, bad_list, disagree}
use Rattle.grid.specs.Grid.{grid, bad_size, bad_wrap, Sized}
use Rattle.starting.specs.Propagate.{bad_lengths}
use Rattle.adjacency.proofs.ListLaws.{listed}
use Rattle.adjacency.proofs.AcceptedLaws.{counted, offsets_long}
use Rattle.grid.proofs.GridLaws.{sized_of}
use Rattle.starting.proofs.CheckLaws.{propagate_refusal-is, lengths_facts}
use Rattle.starting.proofs.check.check.Goals as goal
use Rattle.starting.proofs.check.check.Goals.{Else-bad_count, Else-bad_size, Else-bad_wrap, Else-bad_lengths, Else-bad_list, Else-disagrees}

-- ---- the tests that did not hold
count-good : (c : Else-bad_count) → let a = c.args in bad_count a.count ≡ false
count-good c = sym c.bad_count.ensures ∙ c.if-bad_count.false

size-good : (c : Else-bad_size) → let a = c.args in bad_size a.width a.height ≡ false
size-good c = sym c.bad_size.ensures ∙ c.if-bad_size.false

wrap-good : (c : Else-bad_wrap) → let a = c.args in bad_wrap a.mode ≡ false
wrap-good c = sym c.bad_wrap.ensures ∙ c.if-bad_wrap.false

lengths_good : (c : Else-bad_lengths) → let a = c.args in bad_lengths a.count a.offsets.now (a.height * a.width) (length a.domains.now) a.counts a.pending ≡ false
lengths_good c = rw c.cells.ensures at (sym c.bad_lengths.ensures ∙ c.if-bad_lengths.false)

list-good : (c : Else-bad_list) → let a = c.args in bad_list (table a.count a.offsets.now a.ids.now) ≡ false
list-good c = sym c.bad_list.ensures ∙ c.if-bad_list.false

agree-good : (c : Else-disagrees) → let a = c.args in disagree (table a.count a.offsets.now a.ids.now) ≡ false
agree-good c = sym c.disagrees.ensures ∙ c.if-disagrees.false

sized : (c : Else-bad_wrap) → let a = c.args in Sized (grid a.width a.height a.mode)
sized c = sized_of _ (size-good (goal.at.Else-bad_wrap c).Else-bad_size) (wrap-good c)

-- ---- the needs
pub cells-requires : goal.cells-requires
cells-requires c = size-good (goal.at.cells-requires c).Else-bad_size

pub bad_lengths-requires : goal.bad_lengths-requires
bad_lengths-requires c = ((counted _ (count-good (goal.at.bad_lengths-requires c).Else-bad_count)).1, rw c.cells.ensures (sized (goal.at.bad_lengths-requires c).Else-bad_wrap).few)

long : (c : Else-bad_lengths) → let a = c.args in length a.offsets.now ≡ 4 * a.count + 1
long c = offsets_long _ _ (lengths_facts _ _ _ _ _ _ (lengths_good c)).0

pub bad_list-requires : goal.bad_list-requires
bad_list-requires c = long (goal.at.bad_list-requires c).Else-bad_lengths

pub disagrees-requires : goal.disagrees-requires
disagrees-requires c = listed _ (long (goal.at.disagrees-requires c).Else-bad_lengths) (list-good (goal.at.disagrees-requires c).Else-bad_list)

pub bad_domains-requires : goal.bad_domains-requires
bad_domains-requires c = (counted _ (count-good (goal.at.bad_domains-requires c).Else-bad_count)).1

-- ---- the returns
pub returns-then-bad_count : goal.returns-then-bad_count
unfolding number_of
returns-then-bad_count c = sym (propagate_refusal-is _ _ _ _ _ (sym c.bad_count.ensures ∙ c.if-bad_count.true) refl refl refl refl refl refl)

pub returns-then-bad_size : goal.returns-then-bad_size
unfolding number_of
returns-then-bad_size c = sym (propagate_refusal-is _ _ _ _ _ (count-good (goal.at.returns-then-bad_size c).Else-bad_count) (sym c.bad_size.ensures ∙ c.if-bad_size.true) refl refl refl refl refl)

pub returns-then-bad_wrap : goal.returns-then-bad_wrap
unfolding number_of
returns-then-bad_wrap c = sym (propagate_refusal-is _ _ _ _ _ (count-good (goal.at.returns-then-bad_wrap c).Else-bad_count) (size-good (goal.at.returns-then-bad_wrap c).Else-bad_size) (sym c.bad_wrap.ensures ∙ c.if-bad_wrap.true) refl refl refl refl)

pub returns-then-bad_lengths : goal.returns-then-bad_lengths
unfolding number_of
returns-then-bad_lengths c = sym (propagate_refusal-is _ _ _ _ _ (count-good (goal.at.returns-then-bad_lengths c).Else-bad_count) (size-good (goal.at.returns-then-bad_lengths c).Else-bad_size) (wrap-good (goal.at.returns-then-bad_lengths c).Else-bad_wrap) (rw c.cells.ensures at (sym c.bad_lengths.ensures ∙ c.if-bad_lengths.true)) refl refl refl)

pub returns-then-bad_list : goal.returns-then-bad_list
unfolding number_of
returns-then-bad_list c = sym (propagate_refusal-is _ _ _ _ _ (count-good (goal.at.returns-then-bad_list c).Else-bad_count) (size-good (goal.at.returns-then-bad_list c).Else-bad_size) (wrap-good (goal.at.returns-then-bad_list c).Else-bad_wrap) (lengths_good (goal.at.returns-then-bad_list c).Else-bad_lengths) (sym c.bad_list.ensures ∙ c.if-bad_list.true) refl refl)

pub returns-then-disagrees : goal.returns-then-disagrees
unfolding number_of
returns-then-disagrees c = sym (propagate_refusal-is _ _ _ _ _ (count-good (goal.at.returns-then-disagrees c).Else-bad_count) (size-good (goal.at.returns-then-disagrees c).Else-bad_size) (wrap-good (goal.at.returns-then-disagrees c).Else-bad_wrap) (lengths_good (goal.at.returns-then-disagrees c).Else-bad_lengths) (list-good (goal.at.returns-then-disagrees c).Else-bad_list) (sym c.disagrees.ensures ∙ c.if-disagrees.true) refl)

pub returns-then-bad_domains : goal.returns-then-bad_domains
unfolding number_of
returns-then-bad_domains c = sym (propagate_refusal-is _ _ _ _ _ (count-good (goal.at.returns-then-bad_domains c).Else-bad_count) (size-good (goal.at.returns-then-bad_domains c).Else-bad_size) (wrap-good (goal.at.returns-then-bad_domains c).Else-bad_wrap) (lengths_good (goal.at.returns-then-bad_domains c).Else-bad_lengths) (list-good (goal.at.returns-then-bad_domains c).Else-bad_list) (agree-good (goal.at.returns-then-bad_domains c).Else-disagrees) (sym c.bad_domains.ensures ∙ c.if-bad_domains.true))

pub returns : goal.returns
unfolding number_of
returns c = sym (propagate_refusal-is _ _ _ _ _ (count-good (goal.at.returns c).Else-bad_count) (size-good (goal.at.returns c).Else-bad_size) (wrap-good (goal.at.returns c).Else-bad_wrap) (lengths_good (goal.at.returns c).Else-bad_lengths) (list-good (goal.at.returns c).Else-bad_list) (agree-good (goal.at.returns c).Else-disagrees) (sym c.bad_domains.ensures ∙ c.if-bad_domains.false))
