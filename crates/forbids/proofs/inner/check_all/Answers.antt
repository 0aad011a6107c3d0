-- `forbids::inner::check_all` meets its contract: a forbid that is refused decides, one that is not is passed.
-- Assumes nothing.
use mathlib.Core.List.{List}
use mathlib.Core.Path.{refl, sym, ap, ◌∙◌}
use native.Mathlib.Numerals.{add-one}
use lib.ListN.{drop_of_length-le}
use lib.Seq.{drop-cons}
use Rattle.std.proofs.lemmas.Result.{err_from_is_err_and}
use Rattle.refusals.specs.Refusals.{first_of}
use Rattle.refusals.proofs.RefusalLaws.{number_of-accepted, number_of-positive}
use Rattle.adjacency.specs.Tables.{table}
use Rattle.forbids.specs.declared.Forbid.{Forbid}
use Rattle.forbids.specs.Forbids.{forbid_tests}
use Rattle.forbids.proofs.ForbidLaws.{refused-here, passed-on, none-refused}
use Rattle.forbids.proofs.RecordLaws.{no_forbid}
use Rattle.forbids.proofs.inner.check_all.Goals as goal

pub loop-forbid-init : goal.loop-forbid-init
loop-forbid-init c = λ offsets ids. refl

pub returns-in_err-judge : goal.returns-in_err-judge
returns-in_err-judge c =
    let fs = c.args.forbids.now in
    let loop = c.loop-forbid in
    let split = drop-cons fs loop.forbid-index no_forbid c.loop-forbid-test.true in
    let (_, e, same) = err_from_is_err_and c.from_residual.result c.from_residual.ensures.1 in
    rw (e, same)
    (λ offsets ids.
    refused-here (table c.args.count offsets ids) c.args.grid _ _ c.in_err-judge.ensures (number_of-positive _)
    ∙ sym (ap (λ (gs : List Forbid). first_of (forbid_tests (table c.args.count offsets ids) c.args.grid gs)) split)
    ∙ loop.invariant offsets ids)

pub loop-forbid-preserved : goal.loop-forbid-preserved
loop-forbid-preserved c =
    let fs = c.args.forbids.now in
    let loop = c.loop-forbid in
    let split = drop-cons fs loop.forbid-index no_forbid c.loop-forbid-test.true in
    rw add-one
    (λ offsets ids.
    sym (passed-on (table c.args.count offsets ids) c.args.grid _ _ c.in_ok-judge.ensures number_of-accepted)
    ∙ sym (ap (λ (gs : List Forbid). first_of (forbid_tests (table c.args.count offsets ids) c.args.grid gs)) split)
    ∙ loop.invariant offsets ids)

pub returns : goal.returns
returns c =
    let loop = c.loop-forbid in
    let none = drop_of_length-le c.args.forbids.now c.loop-forbid-test.false in
    λ offsets ids.
    number_of-accepted ∙ none-refused (table c.args.count offsets ids) c.args.grid
    ∙ sym (ap (λ (gs : List Forbid). first_of (forbid_tests (table c.args.count offsets ids) c.args.grid gs)) none)
    ∙ loop.invariant offsets ids
