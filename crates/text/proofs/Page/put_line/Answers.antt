-- `text::Page::put_line` meets its contract: the line is the part of that number, and empty where there is none.
-- Assumes nothing.
use Rattle.std.proofs.Common.{rules, sym, subst, List, ℕ}
use Rattle.std.proofs.lemmas.List.Sorted.{answers_always}
use Rattle.text.specs.Pages.{Puts}
use Rattle.text.proofs.PageLaws.{stays}
use Rattle.text.proofs.LineLaws.{nth_line}
use Rattle.text.proofs.Page.put_line.Goals as goal

pub returns-in-Some : goal.returns-in-Some
returns-in-Some c =
    let found = nth_line _ c.args.k c.args.table.now c.split.result _ c.nth.result c.split.ensures.rest c.split.ensures.done (answers_always _ _ _ (λ f a r f' k. search rules)) c.nth.ensures.ran in
    subst (λ (t : List ℕ). Puts t c.args.self.now c.put_text.new.self) (sym (rw c.in-Some.is at found)) c.put_text.ensures

pub returns-in_default : goal.returns-in_default
returns-in_default c =
    let found = nth_line _ c.args.k c.args.table.now c.split.result _ c.nth.result c.split.ensures.rest c.split.ensures.done (answers_always _ _ _ (λ f a r f' k. search rules)) c.nth.ensures.ran in
    subst (λ (t : List ℕ). Puts t c.args.self.now c.args.self.now) (sym (rw c.in_default.is at found)) (stays c.args.self.now)
