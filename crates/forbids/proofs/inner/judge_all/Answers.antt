-- `forbids::inner::judge_all` meets its contract. The invariant: the first refusal of the forbids that are left is that of all.
-- Assumes nothing.
use mathlib.Core.List.{List}
use mathlib.Core.Path.{sym, ap, ◌∙◌}
use native.Mathlib.Omega.{arith}
use Rattle.std.proofs.lemmas.Result.{err_from_is_err_and}
use Rattle.refusals.specs.Refusals.{first_of}
use Rattle.refusals.proofs.RefusalLaws.{number_of-accepted, number_of-positive}
use Rattle.adjacency.specs.Tables.{table}
use Rattle.forbids.specs.declared.Forbid.{Forbid}
use Rattle.forbids.specs.Forbids.{forbid_tests}
use Rattle.forbids.proofs.ForbidLaws.{refused-here, passed-on, none-refused}
use Rattle.forbids.proofs.NumberLaws.{forbids-chunk, forbids-short}
use Rattle.forbids.proofs.inner.judge_all.Goals as goal

pub returns-in_err-judge : goal.returns-in_err-judge
returns-in_err-judge c =
    let (split, size) = c.in-Some.ensures.steps.1 in
    let loop = c.loop-forbid in
    let three = size ∙ loop.invariant.2 in
    let (_, e, same) = err_from_is_err_and c.from_residual.result c.from_residual.ensures.1 in
    rw (e, same)
    (λ offsets ids.
    refused-here (table c.args.count offsets ids) c.args.grid _ _ c.in_err-judge.ensures (number_of-positive _)
    ∙ sym (ap (λ (fs : List Forbid). first_of (forbid_tests (table c.args.count offsets ids) c.args.grid fs)) (forbids-chunk _ c.in-Some.forbid.now _ split three))
    ∙ loop.invariant.3 offsets ids)

pub loop-forbid-preserved : goal.loop-forbid-preserved
loop-forbid-preserved c =
    let step = c.in-Some.ensures.steps in
    let (split, size) = step.1 in
    let loop = c.loop-forbid in
    let three = size ∙ loop.invariant.2 in (
      omega (arith, step.0, loop.invariant.0),
      tt,
      step.0 ∙ loop.invariant.2,
      λ offsets ids.
          sym (passed-on (table c.args.count offsets ids) c.args.grid _ _ c.in_ok-judge.ensures number_of-accepted)
          ∙ sym (ap (λ (fs : List Forbid). first_of (forbid_tests (table c.args.count offsets ids) c.args.grid fs)) (forbids-chunk _ c.in-Some.forbid.now _ split three))
          ∙ loop.invariant.3 offsets ids,
    )

pub returns : goal.returns
returns c =
    let loop = c.loop-forbid in
    let none = forbids-short _ (omega (arith, c.in-None.ensures.steps.1.0, loop.invariant.2)) in
    λ offsets ids.
    number_of-accepted ∙ none-refused (table c.args.count offsets ids) c.args.grid
    ∙ sym (ap (λ (fs : List Forbid). first_of (forbid_tests (table c.args.count offsets ids) c.args.grid fs)) none)
    ∙ loop.invariant.3 offsets ids
