-- `starting::propagate` meets its contract: refused, nothing was written; accepted, what `settle` writes is the outcome.
-- Assumes nothing.
use mathlib.Core.Path.{◌≡◌, sym, ◌∙◌}
use lib.ListN.{length}
use Rattle.std.proofs.lemmas.Result.{err_from_is_err_and}
use Rattle.adjacency.specs.Tables.{table}
use Rattle.grid.specs.Grid.{grid}
use Rattle.starting.specs.Propagate.{propagate_refusal}
use Rattle.refusals.proofs.RefusalLaws.{number_of-accepted, number_of-refused}
use Rattle.starting.proofs.CheckLaws.{not-refused}
use Rattle.starting.proofs.OutcomeLaws.{told-refused, told-empty, told-whole}
use Rattle.starting.proofs.propagate.Goals as goal
use Rattle.starting.proofs.propagate.Goals.{In_ok-check}

-- where nothing is refused
accepted : (c : In_ok-check) →
    let a = c.args in
    propagate_refusal (table a.count a.offsets.now a.ids.now) (grid a.width a.height a.mode) a.domains.now (length a.counts.now) (length a.pending.now) ≡ 0
accepted c = sym c.in_ok-check.ensures ∙ number_of-accepted

pub settle-contradiction-requires : goal.settle-contradiction-requires
settle-contradiction-requires c =
    let fit = not-refused _ _ _ _ _ (accepted (goal.at.settle-contradiction-requires c).In_ok-check) in
    record { ground = fit.0; starting = fit.1 }

pub returns-then-contradiction : goal.returns-then-contradiction
returns-then-contradiction c =
    told-empty _ _ _ _ _ (accepted (goal.at.returns-then-contradiction c).In_ok-check) c.settle-contradiction.ensures c.if-contradiction.true

pub returns-in_err-check : goal.returns-in_err-check
returns-in_err-check c =
    let (_, e, same) = err_from_is_err_and c.from_residual.result c.from_residual.ensures.1 in
    rw (e, same) (told-refused _ _ _ _ _ _ (sym c.in_err-check.ensures ∙ number_of-refused _))

pub returns : goal.returns
returns c =
    told-whole _ _ _ _ _ (accepted (goal.at.returns c).In_ok-check) c.settle-contradiction.ensures c.if-contradiction.false
