-- `adjacency::inner::list_ok` meets its contract: where there is a last id, it and the order decide.
-- Assumes nothing.
use mathlib.Core.Path.{sym}
use native.Mathlib.Omega.{arith}
use lib.Dec.{ltb}
use borrow.Author.Tests.{le-ltb}
use Rattle.std.proofs.Common.{rules, tests}
use Rattle.std.proofs.lemmas.List.Sorted.{answers_always}
use Rattle.adjacency.proofs.ListLaws.{list_ok_none, list_ok-past, list_ok-sorted}
use Rattle.adjacency.proofs.inner.list_ok.Goals as goal

pub returns-in_default : goal.returns-in_default
returns-in_default c = let (_, _, _, none, _) = c.in_default.ensures.item in sym (list_ok_none _ _ (omega arith))

pub returns-then-from-count : goal.returns-then-from-count
returns-then-from-count c =
    let (_, _, _, (some, last), _) = c.in-Some.ensures.item in
    list_ok-sorted _ _ c.args.list.now some (rw (← last 0, ← c.from.ensures) c.if-from-count.true) (c.is_sorted_by.ensures.cases ltb (answers_always _ _ _ (λ f a r g k. search (rules, tests))))

pub returns-else-from-count : goal.returns-else-from-count
returns-else-from-count c =
    let (_, _, _, (some, last), _) = c.in-Some.ensures.item in
    rw (le-ltb _ _ c.if-from-count.false) (sym (list_ok-past _ c.args.list.now some (rw (← last 0, ← c.from.ensures) c.if-from-count.false)))
