-- `faults::inner::search::forbid_place` meets its contract.
-- Assumes nothing.
use Rattle.std.specs.Prelude.{Result, Ok, Err}
use Rattle.std.specs.Result.{result_eq}
use mathlib.Core.Bool.{Bool, true, false}
use mathlib.Core.Path.{◌≡◌, refl, sym, ◌∙◌}
use denote.Enum.Bare.{sameb}
use lib.Dec.{eqb}
use borrow.Author.Tests.{eqb-true, eqb-false}
use Rattle.refusals.specs.declared.Refusal.{Refusal}
use Rattle.refusals.specs.declared.Refusal.TheVariants.{BadSize, BadWrap, BadCount, BadWeights, BadLength, BadList, Disagree, BadCell, BadPattern, BadSheet, BadDirection}
use Rattle.refusals.specs.contracts.Refusal.{the_type}
use Rattle.refusals.specs.Refusals.{number, number_of}
use Rattle.faults.proofs.EndLaws.{forbid-cell, forbid-pattern, forbid_none}
use Rattle.faults.proofs.inner.search.forbid_place.Goals as goal

-- a refusal is that of a cell where its number is 8
of-cell : (r : Refusal) → sameb the_type r BadCell ≡ eqb (number r) 8
unfolding number
of-cell BadSize = refl
of-cell BadWrap = refl
of-cell BadCount = refl
of-cell BadWeights = refl
of-cell BadLength = refl
of-cell BadList = refl
of-cell Disagree = refl
of-cell BadCell = refl
of-cell BadPattern = refl
of-cell BadSheet = refl
of-cell BadDirection = refl

cell-told : (E : Unit {0} → Unit {0} → Bool) (r : Result (Unit {0}) Refusal) → result_eq E (sameb the_type) r (Err BadCell) ≡ eqb (number_of r) 8
unfolding number_of
cell-told E (Ok u) = refl
cell-told E (Err r) = of-cell r

pub returns-then-eq : goal.returns-then-eq
returns-then-eq c =
    let a = c.args in
    let told : eqb (number_of c.judge.result) 8 ≡ true = sym (cell-told _ c.judge.result) ∙ sym c.eq.ensures ∙ c.if-eq.true in
    forbid-cell a.count a.grid a.forbids.now c.bad_forbid-i.ensures c.if-i-forbids.true c.judge.ensures (eqb-true _ 8 told) refl

pub returns-then-i-forbids : goal.returns-then-i-forbids
returns-then-i-forbids c =
    let a = c.args in
    let told : eqb (number_of c.judge.result) 8 ≡ false = sym (cell-told _ c.judge.result) ∙ sym c.eq.ensures ∙ c.if-eq.false in
    forbid-pattern a.count a.grid a.forbids.now c.bad_forbid-i.ensures c.if-i-forbids.true c.judge.ensures (eqb-false _ 8 told) refl

pub returns : goal.returns
returns c =
    let a = c.args in
    forbid_none a.count a.grid a.forbids.now c.bad_forbid-i.ensures c.if-i-forbids.false
