-- `adjacency::list` meets its contract: what is not refused is safe to read, and the answer is that list; a refusal answers nothing.
-- Assumes nothing.
use mathlib.Core.Path.{◌≡◌, sym, ap, ◌∙◌}
use Rattle.refusals.specs.Refusals.{number_of}
use Rattle.adjacency.specs.Tables.{table}
use Rattle.adjacency.specs.Lookup.{list_refusal}
use Rattle.adjacency.proofs.LookupLaws.{answered, list_answer-list, list_answer_none}
use Rattle.adjacency.proofs.list.Goals as goal
use Rattle.adjacency.proofs.list.Goals.{In-Ok}

-- the call was accepted
accepted : (c : In-Ok) → let a = c.args in list_refusal (table a.count a.offsets.now a.ids.now) a.pattern a.direction ≡ 0
unfolding number_of
accepted c = sym c.list_refusal.ensures ∙ ap number_of c.in-Ok.is

pub list_of-requires : goal.list_of-requires
list_of-requires c =
    let (ok, hp, hd) = answered _ _ _ (accepted (goal.at.list_of-requires c).In-Ok) in
    (ok.listed.laid, hp, hd)

pub returns-in-Ok : goal.returns-in-Ok
returns-in-Ok c = c.list_of.ensures ∙ sym (list_answer-list _ _ _ (accepted (goal.at.returns-in-Ok c).In-Ok))

pub returns-in-Err : goal.returns-in-Err
unfolding number_of
returns-in-Err c =
    sym (list_answer_none _ _ _ c.in-Err.field-0 (sym c.list_refusal.ensures ∙ ap number_of c.in-Err.is))
